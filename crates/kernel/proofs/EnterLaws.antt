-- A call by its number: what the number is read as, then the call. Assumes nothing.
use Prim.Native.Nat.{ℕ}
use mathlib.Core.List.{List}
use mathlib.Core.Path.{◌≡◌, ap}
use lib.IntN.{ℤ}
use mir.Syntax.{w32}
use mir.Val.{SFits, of_z, to_z}
use mir.ValLaws.{to_z-of_z}
use Rattle.std.specs.Prelude.{Err, IsErrAnd, MatchResult, Ok, Result}
use Rattle.rules.specs.Answers.{refusal_number}
use Rattle.rules.specs.Calls.{step}
use Rattle.rules.specs.Enter.{Reads, numbered}
use Rattle.rules.specs.declared.Call.{Call}
use Rattle.rules.specs.declared.Refusal.{Refusal}
use Rattle.scheduling.specs.Steps.{Leads, by_number}
use Rattle.scheduling.specs.declared.step.Step.{Step}
use Rattle.rules.proofs.Numbers.{number-read}
use Rattle.scheduling.proofs.StepLaws.{alike, passed-on, refuses}

-- arguments that were passed on are read back from their bits
module _ (n : ℕ) (a b : ℤ) (fa : SFits w32 a) (fb : SFits w32 b) (x : List ℕ) where
  pub read-refused : (e : Refusal) → Reads n (to_z w32 (of_z w32 a)) (to_z w32 (of_z w32 b)) (Err e) → (r : Result Step Refusal) → IsErrAnd r (λ k. k ≡ e) → Leads (λ t. numbered t n a b) x x r
  read-refused e reads r is =
      let h : Reads n a b (Err e) = rw (to_z-of_z w32 a fa, to_z-of_z w32 b fb) at reads in
      passed-on (λ t. numbered t n a b) x x e r is (refuses (λ t. numbered t n a b) e x (λ t st S. number-read t a b n (Err e) h))

  pub read-called : (call : Call) → Reads n (to_z w32 (of_z w32 a)) (to_z w32 (of_z w32 b)) (Ok call) → (y : List ℕ) (r : Result Step Refusal) → Leads (λ t. step t call) x y r → Leads (λ t. numbered t n a b) x y r
  read-called call reads y r =
      let h : Reads n a b (Ok call) = rw (to_z-of_z w32 a fa, to_z-of_z w32 b fb) at reads in
      alike (λ t. numbered t n a b) (λ t. step t call) x y r (λ t st. number-read t a b n (Ok call) h)

-- a refusal told by its number
pub by-number : (s : Result Step Refusal) (r : Result Step ℕ) → MatchResult s (λ x. r ≡ Ok x) (λ e. IsErrAnd r (λ n. n ≡ refusal_number e)) → r ≡ by_number s
by-number (Ok x) r h = h
by-number (Err e) (Ok x) h = absurd h
by-number (Err e) (Err n) h = ap Err h
