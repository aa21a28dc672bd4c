-- The first two checks of the calls on a semaphore, and count, which has no others. Assumes nothing.
use Prim.Native.Nat.{ℕ}
use mathlib.Core.Bool.{Bool, false}
use mathlib.Core.List.{List, ◌∷◌}
use mathlib.Core.Path.{◌∙◌, ◌≡◌, refl, sym}
use lib.IntN.{ℤ}
use lib.ListN.{drop}
use mir.Syntax.{w32}
use mir.Val.{SFits, of_z, to_z}
use mir.ValLaws.{to_z-of_z}
use borrow.Author.Tests.{lt-leb}
use Rattle.layout.specs.Stands.{Tells}
use Rattle.layout.specs.declared.number.SemaphoreNumber.{SemaphoreNumber}
use Rattle.arguments.specs.Index.{index_below}
use Rattle.std.specs.Prelude.{Err, IsErrAnd, Ok, Result, Some}
use Rattle.rules.specs.declared.Call.{Call}
use Rattle.rules.specs.declared.Call.TheVariants.{Count}
use Rattle.rules.specs.declared.Refusal.{Refusal}
use Rattle.rules.specs.declared.Refusal.TheVariants.{SemaphoreFree}
use Rattle.rules.specs.Calls.{checks, no_semaphore, not_used, step}
use Rattle.scheduling.specs.Steps.{Leads}
use Rattle.scheduling.specs.declared.step.Step.{Step}
use Rattle.scheduling.specs.declared.step.Step.TheVariants.{Done}
use Rattle.tables.specs.Limits.{semaphore_limit}
use Rattle.tables.specs.Readers.{count_of, is_used}
use Rattle.tables.specs.declared.Tables.{Tables}
use Rattle.semaphores.specs.Target.{Chosen}
use Rattle.arguments.proofs.IndexLaws.{number}
use Rattle.scheduling.proofs.RunningLaws.{still}
use Rattle.scheduling.proofs.StepLaws.{checks-refuse, passed-on}

-- a semaphore that isn't used
module _ (z : ℤ) (s : ℕ) (bs : List ℕ) (u : Bool) (at : index_below z semaphore_limit ≡ Some s) (told : Tells (λ t. is_used t s) bs u) where
  pub unused-refused : u ≡ false → Chosen z bs (Err SemaphoreFree)
  unfolding Tells
  unused-refused e t st cs o =
      let n = number z semaphore_limit s at in
      let no' : is_used t s ≡ false = sym (told t st) ∙ e in
      rw (n.0, lt-leb semaphore_limit s n.1, no') refl

-- What a call makes of them, of an argument that was passed on

pub chosen : (a : ℤ) → SFits w32 a → (bs : List ℕ) (r : Result SemaphoreNumber Refusal) → Chosen (to_z w32 (of_z w32 a)) bs r → Chosen a bs r
chosen a f bs r c = rw (to_z-of_z w32 a f) at c

-- they refuse, and `?` passes the refusal on
pub semaphore-refused : (a : ℤ) → SFits w32 a → (bs : List ℕ) (n : Refusal) (r : Result Step Refusal) → IsErrAnd r (λ e. e ≡ n) → Chosen (to_z w32 (of_z w32 a)) bs (Err n) → (call : Call) → ((t : Tables) → checks t call ≡ no_semaphore a ∷ not_used t a ∷ drop 2 (checks t call)) → Leads (λ t. step t call) bs bs r
semaphore-refused a f bs n r is c call e =
    let d : Chosen a bs (Err n) = chosen a f bs (Err n) c in
    passed-on (λ t. step t call) bs bs n r is (checks-refuse call n bs (λ t. no_semaphore a ∷ not_used t a ∷ drop 2 (checks t call)) e (λ t st. d t st (drop 2 (checks t call))))

pub count-told : (z : ℤ) (s : SemaphoreNumber) (a : List ℕ) (v : ℤ) → Chosen z a (Ok s) → Tells (λ t. count_of t s.number) a v → Leads (λ t. step t (Count z)) a a (Ok (Done v))
unfolding Leads step Tells
count-told z s a v w count t st S = (t, rw (w.0, lt-leb semaphore_limit s.number s.below, sym (w.1 t st), sym (count t st)) refl, st, still S t refl)
