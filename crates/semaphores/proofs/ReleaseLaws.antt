-- Delete and reset: all waiters become ready, and one reschedule follows if there was any. Assumes nothing.
use Prim.Native.Nat.{◌+◌, ◌<◌, ℕ}
use mathlib.Core.Bool.{false, true, true≢false}
use mathlib.Core.List.{List, []}
use mathlib.Core.Path.{◌∙◌, ◌≡◌, ap, refl, subst, sym}
use lib.IntN.{pos, ℤ}
use borrow.Author.Tests.{lt-leb}
use Rattle.layout.specs.Bytes.{waiting_from}
use Rattle.layout.specs.Stands.{Stands, Tells, Turns}
use Rattle.layout.specs.declared.number.SemaphoreNumber.{SemaphoreNumber}
use Rattle.lists.specs.Lists.{is_empty}
use Rattle.order.specs.Row.{by_byte, found}
use Rattle.std.specs.Prelude.{Err, IsErrAnd, None, Ok, Option, Result, Some, is_some}
use Rattle.rules.specs.declared.Call.TheVariants.{Delete, Reset}
use Rattle.rules.specs.declared.Refusal.{Refusal}
use Rattle.rules.specs.declared.Refusal.TheVariants.{CountBelow0}
use Rattle.rules.specs.Calls.{below0, deed, finish, release, step}
use Rattle.rules.specs.Schedule.{make_all_ready}
use Rattle.scheduling.specs.Steps.{Leads}
use Rattle.scheduling.specs.Waiters.{numbers}
use Rattle.scheduling.specs.declared.step.Step.{Step}
use Rattle.scheduling.specs.declared.step.Step.TheVariants.{Done, Switches}
use Rattle.tables.specs.Limits.{semaphore_limit}
use Rattle.tables.specs.Readers.{free_semaphore, line, queue}
use Rattle.tables.specs.Setters.{with_semaphore}
use Rattle.tables.specs.declared.Semaphore.{Semaphore}
use Rattle.tables.specs.declared.Tables.{Tables}
use Rattle.semaphores.specs.Target.{Chosen}
use Rattle.order.proofs.Found.{line-queue, told-nobody, told-somebody}
use Rattle.scheduling.proofs.RunningLaws.{all-still, still}
use Rattle.scheduling.proofs.StepLaws.{alike, passed-on, refuses}

is-none : (w : Option ℕ) → is_some w ≡ false → w ≡ None
is-none None e = refl
is-none (Some p) e = absurd (true≢false e)

is-some : (w : Option ℕ) → is_some w ≡ true → (p : ℕ) × (w ≡ Some p)
is-some None e = absurd (true≢false (sym e))
is-some (Some p) e = (p, refl)

module _ (s : ℕ) (x : Semaphore) (h : s < semaphore_limit) (a : List ℕ) (w : Option ℕ) (head : Tells (found (waiting_from + s)) a w) (b : List ℕ) (put : Turns (λ t. with_semaphore t s x) a b) where
  pub release-none : is_some w ≡ false → Leads (λ t. finish (release t s x)) a b (Ok (Done (pos 1)))
  unfolding Leads Turns is_empty make_all_ready line
  release-none e t st S =
      let none : queue t s ≡ [] = sym (line-queue t s h) ∙ told-nobody (waiting_from + s) a w head t st (is-none w e) in
      (with_semaphore t s x, rw none refl, put t st, still S (with_semaphore t s x) refl)

  pub release-some : (ps : List (Option ℕ)) (d : List ℕ) → is_some w ≡ true → Tells (λ t. line t (by_byte (waiting_from + s))) a (numbers ps) → Turns (λ t. make_all_ready t (numbers ps)) b d → Leads (λ t. finish (release t s x)) a d (Ok (Switches (pos 1)))
  unfolding Leads Tells Turns is_empty
  release-some ps d waits picked free t st S =
      let v : Tables = with_semaphore t s x in
      let y = told-somebody (waiting_from + s) a w head t st (is-some w waits).0 (is-some w waits).1 in
      let full : is_empty (queue t s) ≡ false = ap is_empty (sym (line-queue t s h) ∙ y.2) in
      (make_all_ready v (queue t s), rw full refl, subst (λ (q : List ℕ). Stands (make_all_ready v q) d) (picked t st ∙ line-queue t s h) (free v (put t st)), all-still S s x)

-- The two calls

module _ (z : ℤ) (s : SemaphoreNumber) (a b : List ℕ) (r : Result Step Refusal) (w : Chosen z a (Ok s)) where
  pub delete-releases : Leads (λ t. finish (release t s.number free_semaphore)) a b r → Leads (λ t. step t (Delete z)) a b r
  unfolding step Tells
  delete-releases = alike (λ t. step t (Delete z)) (λ t. finish (release t s.number free_semaphore)) a b r (λ t st. rw (w.0, lt-leb semaphore_limit s.number s.below, sym (w.1 t st)) refl)

  pub reset-releases : (v : ℤ) → below0 v ≡ false → Leads (λ t. finish (release t s.number (record { used = true; count = v }))) a b r → Leads (λ t. step t (Reset z v)) a b r
  unfolding step Tells
  reset-releases v h = alike (λ t. step t (Reset z v)) (λ t. finish (release t s.number (record { used = true; count = v }))) a b r (λ t st. rw (h, w.0, lt-leb semaphore_limit s.number s.below, sym (w.1 t st)) refl)

-- reset checks the count before the semaphore

pub reset-3 : (a b : ℤ) (bs : List ℕ) → below0 b ≡ true → Leads (λ t. step t (Reset a b)) bs bs (Err CountBelow0)
unfolding step
reset-3 a b bs h = refuses (λ t. step t (Reset a b)) CountBelow0 bs (λ t st S. rw h refl)

pub reset-refused : (a : ℤ) (bs : List ℕ) (n : Refusal) → Chosen a bs (Err n) → (v : ℤ) → below0 v ≡ false → (r : Result Step Refusal) → IsErrAnd r (λ e. e ≡ n) → Leads (λ t. step t (Reset a v)) bs bs r
unfolding step
reset-refused a bs n c v h r is = passed-on (λ t. step t (Reset a v)) bs bs n r is (refuses (λ t. step t (Reset a v)) n bs (λ t st S. rw h (c t st [] (finish (deed t (Reset a v))))))
