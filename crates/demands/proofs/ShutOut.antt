-- Demand 2 leaves one kernel, and shuts the wrong ones out by a session that tells them apart. Assumes nothing.
use Prim.Native.Nat.{ℕ}
use native.Mathlib.Omega.{arith}
use mathlib.Core.List.{List, [], ◌∷◌}
use mathlib.Core.Path.{◌∙◌, ◌≡◌, ap, refl, sym}
use lib.IntN.{pos}
use mir.Syntax.{w32}
use mir.Val.{of_z}
use Rattle.layout.specs.Bytes.{from_bytes, to_bytes}
use Rattle.lists.specs.Lists.{filter, first_or, is_empty}
use Rattle.lists.specs.Numbers.{listed, round_from}
use Rattle.promises.specs.Edges.{call}
use Rattle.promises.specs.Record.{AllFit, Request, after, made}
use Rattle.rules.specs.Answers.{number_of, value_of}
use Rattle.rules.specs.Calls.{step}
use Rattle.rules.specs.Enter.{numbered}
use Rattle.rules.specs.declared.Answer.{Answer}
use Rattle.rules.specs.declared.Answer.TheVariants.{Done}
use Rattle.tables.specs.Boot.{boot}
use Rattle.tables.specs.Readers.{count_of}
use Rattle.tables.specs.declared.Tables.{Tables}
use Rattle.cottonsedge.specs.Fields.{refusal_field, value_field}
use Rattle.promises.proofs.Runs.{boot-run-fits, boot-run-sound}
use Rattle.cottonsedge.proofs.Calls.{back}
use Rattle.demands.specs.Demands.{Allowed, Asked, Bytes, Demand2, Kernel, Result}
use Rattle.demands.specs.Kernels.{Wrong, answers_one, asks_twice, changes_nothing, makes_up_count, only_first, refuses_all}
use Rattle.demands.specs.Sessions.{AllAsked, Steps, given, left}
use Rattle.demands.proofs.Asked.{asked-fit, tested}
use Rattle.demands.proofs.Demand1.{exact}
use Rattle.demands.proofs.Sessions.{demand2-steps, steps-bytes, steps-refusal, steps-value}

-- One kernel

-- any two results that the contract allows are the same
pub allowed-once : {bs : List ℕ} {q : Request} {x y : Result} → Allowed bs q x → Allowed bs q y → x ≡ y
allowed-once c d = λ i. record { answer = (c.answer ∙ sym d.answer) i; bytes = (c.bytes ∙ sym d.bytes) i }

-- so any two kernels that meet demand 2 give the same, whatever each was asked before
pub demand2-once : (k l : Kernel) → Demand2 k → Demand2 l → (earlier others : List Request) (bs : List ℕ) (q : Request) → Bytes bs → Asked q → k earlier bs q ≡ l others bs q
demand2-once k l d e earlier others bs q byte h = allowed-once (d earlier bs q byte h) (e others bs q byte h)

-- and there is one
pub demand2-met : Demand2 (λ earlier. exact)
demand2-met earlier bs q byte h = record { answer = refl; bytes = refl }

-- The session

asks-twice-asked : AllAsked asks_twice
asks-twice-asked = tested asks_twice refl

-- up to each of its calls

abbrev begun : List Request
begun = call 3 (pos 0) ∷ []

abbrev asked : List Request
asked = call 11 (pos 0) ∷ begun

abbrev signalled : List Request
signalled = call 2 (pos 0) ∷ asked

-- what the rules say of it

make-done : (made (after boot []) (call 3 (pos 0))).answer ≡ Done (pos 0)
unfolding after numbered step boot filter is_empty first_or listed round_from
make-done = refl

count-done : (made (after boot begun) (call 11 (pos 0))).answer ≡ Done (pos 0)
unfolding after numbered step boot filter is_empty first_or listed round_from
count-done = refl

count-again : (made (after boot signalled) (call 11 (pos 0))).answer ≡ Done (pos 1)
unfolding after numbered step boot filter is_empty first_or listed round_from
count-again = refl

count-before : count_of (after boot asked) 0 ≡ pos 0
unfolding after numbered step boot filter is_empty first_or listed round_from
count-before = refl

count-raised : count_of (after boot signalled) 0 ≡ pos 1
unfolding after numbered step boot filter is_empty first_or listed round_from
count-raised = refl

-- The wrong ones

module _ (k : Kernel) (s : Steps k (to_bytes boot) asks_twice) where
  steps-begun : Steps k (to_bytes boot) begun
  unfolding Steps
  steps-begun = s.1.1.1

  steps-asked : Steps k (to_bytes boot) asked
  unfolding Steps
  steps-asked = s.1.1

  steps-signalled : Steps k (to_bytes boot) signalled
  unfolding Steps
  steps-signalled = s.1

  fits-signalled : AllFit signalled
  fits-signalled = asked-fit signalled asks-twice-asked.1

  -- the signal changes a byte
  signal-changes : (given k (to_bytes boot) asked (call 2 (pos 0))).bytes ≡ left k (to_bytes boot) asked → ⊥
  unfolding left
  signal-changes e =
      let fs = fits-signalled.1 in
      let b : to_bytes (after boot signalled) ≡ to_bytes (after boot asked) = sym (steps-bytes k signalled fits-signalled steps-signalled) ∙ e ∙ steps-bytes k asked fs steps-asked in
      let t : after boot signalled ≡ after boot asked = sym (back (boot-run-sound signalled) (boot-run-fits signalled fits-signalled)) ∙ ap from_bytes b ∙ back (boot-run-sound asked) (boot-run-fits asked fs) in
      let c : pos 1 ≡ pos 0 = sym count-raised ∙ ap (λ (x : Tables). count_of x 0) t ∙ count-before in
      let z : ◌≡◌ {A = ℕ} 1 0 = cc in
      omega arith

  make-refusal : refusal_field (given k (to_bytes boot) [] (call 3 (pos 0))).answer ≡ 0
  make-refusal = steps-refusal k (call 3 (pos 0)) [] (asked-fit begun asks-twice-asked.1.1.1) steps-begun ∙ ap number_of make-done

  first_count : value_field (given k (to_bytes boot) begun (call 11 (pos 0))).answer ≡ 0
  first_count = steps-value k (call 11 (pos 0)) begun (asked-fit asked asks-twice-asked.1.1) steps-asked ∙ ap (λ (r : Answer). of_z w32 (value_of r)) count-done

  second-count : value_field (given k (to_bytes boot) signalled (call 11 (pos 0))).answer ≡ 1
  second-count = steps-value k (call 11 (pos 0)) signalled (asked-fit asks_twice asks-twice-asked) s ∙ ap (λ (r : Answer). of_z w32 (value_of r)) count-again

  told-apart : Wrong k → ⊥
  told-apart (refuses_all w) = w _ _ _ make-refusal
  told-apart (answers_one w) = let e : ◌≡◌ {A = ℕ} 1 0 = sym (w _ _ _) ∙ first_count in omega arith
  told-apart (changes_nothing w) = signal-changes (w _ _ _)
  told-apart (only_first w) = signal-changes (w _ _ _ _)
  told-apart (makes_up_count (v, w)) = let e : ◌≡◌ {A = ℕ} 0 1 = sym first_count ∙ w _ _ _ ∙ sym (w _ _ _) ∙ second-count in omega arith

-- the session tells each of them from a kernel whose steps the contract allows
pub session-tells : (k : Kernel) → Wrong k → Steps k (to_bytes boot) asks_twice → ⊥
session-tells k w s = told-apart k s w

-- so none meets demand 2
pub shut_out : (k : Kernel) → Wrong k → Demand2 k → ⊥
shut_out k w d = session-tells k w (demand2-steps k d asks_twice asks-twice-asked)
