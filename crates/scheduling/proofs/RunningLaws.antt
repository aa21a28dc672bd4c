-- Who is current while a call is under way: the caller, or nobody any more. Assumes nothing.
use Prim.Native.Nat.{◌<◌, ℕ}
use mathlib.Core.Bool.{◌&&◌, false}
use mathlib.Core.List.{[], ◌∷◌}
use mathlib.Core.Path.{◌∙◌, ◌≡◌, ap, refl, sym}
use lib.Dec.{ltb}
use lib.ListN.{length}
use Rattle.lists.specs.Lists.{place, times, without}
use Rattle.rules.specs.Schedule.{joining, make_all_ready, make_ready, make_wait}
use Rattle.tables.specs.Readers.{current_of, currents, priority_of, process, queue, state_of}
use Rattle.tables.specs.Setters.{in_state, with_order, with_process, with_semaphore}
use Rattle.tables.specs.Sound.{Sound}
use Rattle.tables.specs.States.{is_current, is_ready}
use Rattle.tables.specs.declared.Process.{Process}
use Rattle.tables.specs.declared.Semaphore.{Semaphore}
use Rattle.tables.specs.declared.State.TheVariants.{Ready, Waiting}
use Rattle.tables.specs.declared.Tables.{Tables}
use Rattle.scheduling.specs.Running.{Only}
use Rattle.lists.proofs.ListLaws.{without-only}
use Rattle.rules.proofs.Effects.{line-entry}
use Rattle.rules.proofs.Joins.{line-join-other}
use Rattle.rules.proofs.Release.{release-current}
use Rattle.tables.proofs.LineLaws.{at_same, line-absent, line_first, line-leave, live-once, live-slot}
use Rattle.tables.proofs.Sentences.{current-below, current-only}

module _ {t : Tables} (S : Sound t) where
  -- who was current still is
  pub still : (u : Tables) → currents u ≡ currents t → Only (current_of t) u
  still u e =
      let one : currents u ≡ current_of t ∷ [] = e ∙ current-only S.running in
      record { below = current-below S; alone = one ∙ sym (rw (line_first u is_current (current_of t) [] one) refl) }

  -- nobody is
  stopped : (u : Tables) → currents u ≡ [] → is_current (state_of u (current_of t)) ≡ false → Only (current_of t) u
  stopped u e k = record { below = current-below S; alone = e ∙ sym (rw k refl) }

  -- p's slot is written anew, or p joins the ready list, in tables v where the same one is current

  module _ (v : Tables) (e : currents v ≡ currents t) (p : ℕ) (hp : p < length v.processes) where
    pub ready-still : times p v.order ≡ 1 → is_current (state_of v p) ≡ false → Only (current_of t) (make_ready v p)
    ready-still once k =
        still (make_ready v p)
        (line-join-other v p (λ q. is_ready (state_of v q) && ltb (priority_of v q) (priority_of v p)) Ready is_current hp once refl ∙ line-absent v p is_current k ∙ e)

    module _ (y : Process) (hy : is_current y.state ≡ false) where
      pub slot-still : is_current (state_of v p) ≡ false → Only (current_of t) (with_process v p y)
      slot-still k = still (with_process v p y) (line-leave v p y is_current hp hy ∙ line-absent v p is_current k ∙ e)

      pub slot-stopped : current_of t ≡ p → Only (current_of t) (with_process v p y)
      slot-stopped is =
          stopped (with_process v p y)
          (line-leave v p y is_current hp hy ∙ ap (without p) (e ∙ current-only S.running ∙ ap (λ (n : ℕ). n ∷ []) is) ∙ without-only p)
          (ap (λ (n : ℕ). is_current (state_of (with_process v p y) n)) is ∙ ap (λ (x : Process). is_current x.state) (at_same v p y hp) ∙ hy)

  -- the entry of a semaphore is written, and the caller joins the queue, or every waiter the ready list

  module _ (s : ℕ) (x : Semaphore) where
    pub wait-stopped : Only (current_of t) (make_wait (with_semaphore t s x) (current_of t) s)
    unfolding joining
    wait-stopped =
        let v : Tables = with_semaphore t s x in
        let c : ℕ = current_of t in
        let hp : c < length v.processes = live-slot S.laid c (current-below S) in
        stopped (make_wait v c s)
        (line-join-other v c (λ q. false) (Waiting s) is_current hp (live-once S.laid c (current-below S)) refl ∙ ap (without c) (line-entry t s x is_current ∙ current-only S.running) ∙ without-only c)
        (ap (λ (y : Process). is_current y.state) (at_same (with_order v (place (λ q. false) c v.order)) c (in_state (Waiting s) (process v c)) hp))

    pub all-still : Only (current_of t) (make_all_ready (with_semaphore t s x) (queue t s))
    all-still = still (make_all_ready (with_semaphore t s x) (queue t s)) (release-current S s x)
