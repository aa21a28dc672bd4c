-- Wait and signal: what they do to the semaphore that they name. Assumes nothing.
use Rattle.std.specs.Prelude.{if◌then◌else◌}
use Prim.Native.Nat.{ℕ, zero, suc}
use native.Mathlib.Omega.{arith}
use mathlib.Core.Bool.{true, false, true≢false}
use mathlib.Core.List.{List, [], ◌∷◌, ◌++◌}
use mathlib.Core.Logic.{◌≢◌}
use mathlib.Core.Path.{◌≡◌, refl, sym, ap, ◌∙◌}
use lib.IntN.{ℤ, pos, negsuc, suc_ℤ, pred_ℤ}
use lib.ListN.{length, drop, length-append}
use borrow.Author.Tests.{ne_eqb}
use Rattle.lists.specs.Lists.{without, first_or, first}
use Rattle.lists.proofs.Bools.{split}
use Rattle.lists.proofs.ListLaws.{without-only}
use Rattle.tables.specs.declared.State.TheVariants.{Waiting}
use Rattle.tables.specs.declared.Tables.{Tables}
use Rattle.tables.specs.States.{is_free, is_current, waits_on}
use Rattle.tables.specs.Readers.{state_of, is_used, count_of, queue, currents, current_of}
use Rattle.tables.specs.Setters.{with_count}
use Rattle.tables.specs.Sound.{Laid, Counted, Sound}
use Rattle.tables.proofs.LineLaws.{line-absent, live-slot, live-once, used-entry}
use Rattle.tables.proofs.Sentences.{current-only, current-is, current-below}
use Rattle.rules.specs.Schedule.{make_ready, make_wait}
use Rattle.rules.specs.Calls.{below0, switching, wait_on, signal_on, finish}
use Rattle.rules.proofs.Joins.{queue-make_wait}
use Rattle.rules.proofs.Moves.{Turned, moved-join, laid-turned, falling-left, ready_moved, laid-ready, head-waits, head-below, head-leaves}
use Rattle.rules.proofs.Resched.{line_kept, zero-other, zero-moved, Prepared}
use Rattle.rules.proofs.Effects.{Effect, line-entry, laid-entry, running-entry, effect-entry, effect-done}

-- Counts

pub counted-wait : (c : ℤ) (q : List ℕ) (p : ℕ) → Counted c q → Counted (pred_ℤ c) (if below0 (pred_ℤ c) then q ++ p ∷ [] else q)
counted-wait (pos zero) q p h = ap (λ (l : List ℕ). length (l ++ p ∷ [])) h
counted-wait (pos (suc n)) q p h = h
counted-wait (negsuc n) q p h = length-append q (p ∷ []) ∙ omega arith

pub counted-signal : (c : ℤ) (q : List ℕ) → Counted c q → Counted (suc_ℤ c) (if below0 c then drop 1 q else q)
counted-signal (pos n) q h = h
counted-signal (negsuc zero) [] h = refl
counted-signal (negsuc zero) (x ∷ []) h = refl
counted-signal (negsuc zero) (x ∷ y ∷ q) h = absurd (omega arith)
counted-signal (negsuc (suc n)) [] h = absurd (omega arith)
counted-signal (negsuc (suc n)) (x ∷ q) h = omega arith

-- a count below 0 has a first waiter
pub first-waiter : (c : ℤ) (q : List ℕ) → below0 c ≡ true → Counted c q → q ≡ first q ∷ drop 1 q
unfolding first_or
first-waiter (pos n) q b h = absurd (true≢false (sym b))
first-waiter (negsuc n) [] b h = absurd (omega arith)
first-waiter (negsuc n) (f ∷ fs) b h = refl

-- Wait

module _ {t : Tables} (S : Sound t) (s : ℕ) (hu : is_used t s ≡ true) where
  -- only the count changes
  only : (c : ℤ) → Effect t (with_count t s c) s (is_used t s) c (queue t s)
  only c =
      effect-entry s (record { used = is_used t s; count = c }) (used-entry S.laid s hu) (laid-entry S.laid s _) (running-entry S.running s _) refl
      (line-entry t s _ (waits_on s)) (λ r h. line-entry t s _ (waits_on r))

  -- the caller waits at the queue's tail, and another is started

  waiting-moved : (c : ℤ) → Turned (with_count t s c) (make_wait (with_count t s c) (current_of t) s) (current_of t) (Waiting s)
  waiting-moved c =
      let l : Laid (with_count t s c) = laid-entry S.laid s _ in
      moved-join (with_count t s c) (current_of t) _ (Waiting s) (live-slot l (current_of t) (current-below S)) (live-once l (current_of t) (current-below S))

  pub wait-prepared : (c : ℤ) → 0 ≢ current_of t → Prepared (switching (pos 1) (make_wait (with_count t s c) (current_of t) s))
  wait-prepared c hz =
      let l : Laid (with_count t s c) = laid-entry S.laid s _ in
      let m = waiting-moved c in
      let none : currents (make_wait (with_count t s c) (current_of t) s) ≡ [] =
      m.leaves is_current refl ∙ ap (without (current_of t)) (line-entry t s _ is_current ∙ current-only S.running) ∙ without-only (current_of t) in
      record {
        laid = laid-turned l m refl (ap is_free (current-is S.running)) (falling-left l m refl);
        few = rw none (omega arith);
        zero = zero-other m hz S.running.zero;
        runs = λ h. absurd (true≢false h);
      }

  blocks : (c : ℤ) → 0 ≢ current_of t → Effect t (finish (switching (pos 1) (make_wait (with_count t s c) (current_of t) s))).tables s (is_used t s) c (queue t s ++ current_of t ∷ [])
  blocks c hz =
      let p : ℕ = current_of t in
      let l : Laid (with_count t s c) = laid-entry S.laid s _ in
      let idle : (r : ℕ) → waits_on r (state_of t p) ≡ false = λ r. ap (waits_on r) (current-is S.running) in
      effect-done _ s (record { used = is_used t s; count = c }) (used-entry S.laid s hu) (wait-prepared c hz) (waiting-moved c).semaphores
      (queue-make_wait (with_count t s c) p s (live-slot l p (current-below S)) (live-once l p (current-below S)) ∙ ap (λ (q : List ℕ). q ++ p ∷ []) (line-absent (with_count t s c) p (waits_on s) (idle s) ∙ line-entry t s _ (waits_on s)))
      (λ r h. line_kept (waiting-moved c) (waits_on r) (ne_eqb s r (λ e. h (sym e))) (idle r) ∙ line-entry t s _ (waits_on r))

  pub wait-effect : 0 ≢ current_of t
      → Effect t (finish (wait_on t s)).tables s (is_used t s) (pred_ℤ (count_of t s)) (if below0 (pred_ℤ (count_of t s)) then queue t s ++ current_of t ∷ [] else queue t s)
  wait-effect hz =
      let c : ℤ = pred_ℤ (count_of t s) in
      split (below0 c) (λ e. rw e (blocks c hz)) (λ e. rw e (only c))

  -- the queue's head becomes ready

  pub signal-prepared : (c : ℤ) (f : ℕ) (fs : List ℕ) → queue t s ≡ f ∷ fs → Prepared (switching (pos 1) (make_ready (with_count t s c) f))
  signal-prepared c f fs e =
      let l : Laid (with_count t s c) = laid-entry S.laid s _ in
      let m = ready_moved l f (head-below S.laid s f fs e) in
      record {
        laid = laid-ready l f (head-below S.laid s f fs e) (ap is_free (head-waits S.laid s f fs e));
        few = rw (line_kept m is_current refl (ap is_current (head-waits S.laid s f fs e)) ∙ line-entry t s _ is_current, S.running.one) (omega arith);
        zero = zero-moved m refl S.running.zero;
        runs = λ h. absurd (true≢false h);
      }

  wakes : (c : ℤ) (f : ℕ) (fs : List ℕ) → queue t s ≡ f ∷ fs → Effect t (finish (switching (pos 1) (make_ready (with_count t s c) f))).tables s (is_used t s) c fs
  wakes c f fs e =
      let l : Laid (with_count t s c) = laid-entry S.laid s _ in
      let m = ready_moved l f (head-below S.laid s f fs e) in
      effect-done _ s (record { used = is_used t s; count = c }) (used-entry S.laid s hu) (signal-prepared c f fs e) m.semaphores
      (head-leaves l s f fs (line-entry t s _ (waits_on s) ∙ e))
      (λ r h. line_kept m (waits_on r) refl (ap (waits_on r) (head-waits S.laid s f fs e) ∙ ne_eqb s r (λ d. h (sym d))) ∙ line-entry t s _ (waits_on r))

  pub signal-effect : Effect t (finish (signal_on t s)).tables s (is_used t s) (suc_ℤ (count_of t s)) (if below0 (count_of t s) then drop 1 (queue t s) else queue t s)
  unfolding first_or
  signal-effect =
      split (below0 (count_of t s))
      (λ b. rw b (wakes (suc_ℤ (count_of t s)) (first (queue t s)) (drop 1 (queue t s)) (first-waiter (count_of t s) (queue t s) b (S.queued.counted s))))
      (λ b. rw b (only (suc_ℤ (count_of t s))))
