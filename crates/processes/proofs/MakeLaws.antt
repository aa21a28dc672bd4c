-- Make a process: what is taken is the first free slot from the cursor on. Assumes nothing.
use Prim.Native.Nat.{◌<◌, ◌≤◌, ℕ}
use native.Mathlib.Omega.{arith}
use mathlib.Core.Bool.{◌||◌, false, true}
use mathlib.Core.List.{List}
use mathlib.Core.Path.{◌∙◌, ◌≡◌, refl, subst, sym}
use lib.IntN.{pos, ℤ}
use lib.Signed.{lt_z}
use borrow.Author.Tests.{le-ltb}
use Rattle.layout.specs.Offsets.{priorities_at, states_at}
use Rattle.layout.specs.Stands.{Tells, Turns}
use Rattle.lists.specs.Lists.{first_or, is_empty}
use Rattle.lists.specs.Numbers.{round_from}
use Rattle.order.specs.Search.{first_free}
use Rattle.std.specs.List.{slice_range}
use Rattle.std.specs.Prelude.{Err, IsErrAnd, None, Ok, Option, Result, Some}
use lib.ListN.{length}
use Rattle.rules.specs.declared.Call.TheVariants.{MakeProcess}
use mir.Syntax.{w32}
use mir.Val.{SFits, of_z, to_z}
use mir.ValLaws.{to_z-of_z}
use Rattle.rules.specs.declared.Refusal.{Refusal}
use Rattle.rules.specs.declared.Refusal.TheVariants.{AllLive, NoSuchPriority}
use Rattle.rules.specs.Calls.{one_past, step}
use Rattle.scheduling.specs.Steps.{Leads}
use Rattle.scheduling.specs.declared.step.Step.{Step}
use Rattle.scheduling.specs.declared.step.Step.TheVariants.{Done}
use Rattle.tables.specs.Limits.{priority_limit, process_limit}
use Rattle.tables.specs.Readers.{line, state_of}
use Rattle.tables.specs.Setters.{new_slot, with_next_process, with_process}
use Rattle.tables.specs.States.{is_free}
use Rattle.tables.specs.declared.Process.{Process}
use Rattle.lists.proofs.ListLaws.{first_passes}
use Rattle.order.proofs.Found.{first-none, first_some}
use Rattle.order.proofs.SearchLaws.{first_slot}
use Rattle.scheduling.proofs.RunningLaws.{slot-still}
use Rattle.scheduling.proofs.StepLaws.{passed-on, refuses}
use Rattle.tables.proofs.LineLaws.{live-slot}
use Rattle.tables.proofs.States.{free-not-current}

-- what the search from the cursor on answers
abbrev Searched : List ℕ → ℕ → Option ℕ → Type 0
Searched a k r = let es : List ℕ = slice_range a states_at priorities_at in k < length es → r ≡ first_free es (round_from (length es) k)

-- the first check, of a number that was passed on, and `?` passes the refusal on
pub make-11 : (z : ℤ) → SFits w32 z → (bs : List ℕ) (e : Refusal) (r : Result Step Refusal) → IsErrAnd r (λ x. x ≡ e) → (e ≡ NoSuchPriority) × ((lt_z (to_z w32 (of_z w32 z)) (pos 1) || lt_z (pos priority_limit) (to_z w32 (of_z w32 z))) ≡ true) → Leads (λ t. step t (MakeProcess z)) bs bs r
unfolding step
make-11 z f bs e r is out =
    let far : (lt_z z (pos 1) || lt_z (pos priority_limit) z) ≡ true = rw (to_z-of_z w32 z f) at out.1 in
    passed-on (λ t. step t (MakeProcess z)) bs bs NoSuchPriority r (subst (λ (n : Refusal). IsErrAnd r (λ x. x ≡ n)) out.0 is) (refuses (λ t. step t (MakeProcess z)) NoSuchPriority bs (λ t st S. rw far refl))

module _ (z : ℤ) (f : SFits w32 z) (n : ℕ) (at : (to_z w32 (of_z w32 z) ≡ pos n) × (0 < n) × (n ≤ priority_limit)) where
  priority-is : z ≡ pos n
  priority-is = sym (to_z-of_z w32 z f) ∙ at.0

  fits : (lt_z z (pos 1) || lt_z (pos priority_limit) z) ≡ false
  fits = let low : 0 < n = at.1 in let high : n ≤ priority_limit = at.2 in rw (priority-is, le-ltb n 1 (omega arith), le-ltb priority_limit n (omega arith)) refl

  module _ (a : List ℕ) (k : ℕ) (r : Option ℕ) (cursor : Tells (λ t. t.next_process) a k) (is : Searched a k r) where
    pub make-8 : r ≡ None → Leads (λ t. step t (MakeProcess z)) a a (Err AllLive)
    unfolding step is_empty
    make-8 e = refuses (λ t. step t (MakeProcess z)) AllLive a (λ t st S. rw (fits, first-none _ (sym (first_slot a k r t st S cursor is) ∙ e)) refl)

    module _ (p : ℕ) (e : r ≡ Some p) (b d : List ℕ) (put : p < process_limit → Turns (λ t. with_process t p (new_slot n)) a b) (move : Turns (λ t. with_next_process t (one_past process_limit p)) b d) (below : p < process_limit) where
      pub make-process-done : (v : ℤ) → v ≡ pos p → Leads (λ t. step t (MakeProcess z)) a d (Ok (Done v))
      unfolding Leads step is_empty first_or Turns line
      make-process-done v m t st S =
          let w = first_some _ p (sym (first_slot a k r t st S cursor is) ∙ e) in
          let y : Process = new_slot n in
          let free : is_free (state_of t p) ≡ true = first_passes (λ q. is_free (state_of t q)) (round_from process_limit t.next_process) w.0 p w.1 in (
            with_next_process (with_process t p y) (one_past process_limit p),
            rw (fits, priority-is, w.1, m) refl,
            move (with_process t p y) (put below t st),
            slot-still S (with_next_process t (one_past process_limit p)) refl p (live-slot S.laid p below) y refl (free-not-current (state_of t p) free),
          )
