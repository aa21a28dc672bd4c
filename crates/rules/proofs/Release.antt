-- Delete and reset: every waiter is released. Assumes nothing.
use Prim.Native.Nat.{ℕ}
use native.Mathlib.Omega.{arith}
use mathlib.Core.Bool.{true, false, not, true≢false}
use mathlib.Core.List.{List, [], ◌∷◌}
use mathlib.Core.Logic.{◌≢◌}
use mathlib.Core.Path.{◌≡◌, refl, sym, ap, ◌∙◌}
use borrow.Author.Tests.{ne_eqb}
use Rattle.lists.specs.Lists.{is_empty}
use Rattle.tables.specs.declared.Semaphore.{Semaphore}
use Rattle.tables.specs.declared.Tables.{Tables}
use Rattle.tables.specs.States.{is_free, is_current, waits_on}
use Rattle.tables.specs.Readers.{is_used, queue, currents}
use Rattle.tables.specs.Setters.{with_semaphore}
use Rattle.tables.specs.Sound.{Laid, Running, Sound}
use Rattle.tables.proofs.LineLaws.{used-entry}
use Rattle.rules.specs.Schedule.{make_ready, make_all_ready}
use Rattle.rules.specs.Calls.{release, finish}
use Rattle.rules.proofs.Moves.{ready_moved, laid-ready, head-waits, head-below, head-leaves}
use Rattle.rules.proofs.Resched.{Zero, line_kept, zero-moved, Prepared}
use Rattle.rules.proofs.Effects.{Effect, line-entry, laid-entry, running-entry, effect-done}

-- t' is t with every waiter of s made ready
record Freed (s : ℕ) (t t' : Tables) : Type 0 where
  laid : Laid t'
  few : currents t' ≡ currents t
  zero : Zero t'
  semaphores : t'.semaphores ≡ t.semaphores
  gone : queue t' s ≡ []
  others : (r : ℕ) → r ≢ s → queue t' r ≡ queue t r

all-ready : (s : ℕ) (q : List ℕ) (t : Tables) → Laid t → Zero t → queue t s ≡ q → Freed s t (make_all_ready t q)
unfolding make_all_ready
all-ready s [] t l z e = record { laid = l; few = refl; zero = z; semaphores = refl; gone = e; others = λ r h. refl }
all-ready s (f ∷ fs) t l z e =
    let waits = head-waits l s f fs e in
    let below = head-below l s f fs e in
    let m = ready_moved l f below in
    let g = all-ready s fs (make_ready t f) (laid-ready l f below (ap is_free waits)) (zero-moved m refl z) (head-leaves l s f fs e) in
    record {
      laid = g.laid;
      few = g.few ∙ line_kept m is_current refl (ap is_current waits);
      zero = g.zero;
      semaphores = g.semaphores ∙ m.semaphores;
      gone = g.gone;
      others = λ r h. g.others r h ∙ line_kept m (waits_on r) refl (ap (waits_on r) waits ∙ ne_eqb s r (λ d. h (sym d)));
    }

module _ {t : Tables} (S : Sound t) (s : ℕ) (x : Semaphore) where
  freed : Freed s (with_semaphore t s x) (make_all_ready (with_semaphore t s x) (queue t s))
  freed = all-ready s (queue t s) (with_semaphore t s x) (laid-entry S.laid s x) S.running.zero (line-entry t s x (waits_on s))

  -- without a waiter nothing moves
  release-runs : (q : List ℕ) → queue t s ≡ q → not (is_empty q) ≡ false → Running (make_all_ready (with_semaphore t s x) q)
  unfolding is_empty make_all_ready
  release-runs [] e h = running-entry S.running s x
  release-runs (p ∷ ps) e h = absurd (true≢false h)

  -- nobody starts or stops
  pub release-current : currents (release t s x).tables ≡ currents t
  release-current = freed.few ∙ line-entry t s x is_current

  pub release-prepared : Prepared (release t s x)
  release-prepared = record { laid = freed.laid; few = rw (release-current, S.running.one) (omega arith); zero = freed.zero; runs = release-runs (queue t s) refl }

  pub release-effect : is_used t s ≡ true → Effect t (finish (release t s x)).tables s x.used x.count []
  release-effect hu =
      effect-done (release t s x) s x (used-entry S.laid s hu) release-prepared freed.semaphores freed.gone (λ r h. freed.others r h ∙ line-entry t s x (waits_on r))
