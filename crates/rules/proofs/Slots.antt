-- A process stops, resumes or yields: what stays sound. Assumes nothing.
use Prim.Native.Nat.{ℕ, zero, suc, ◌≤◌, ◌<◌}
use native.Mathlib.Omega.{arith}
use mathlib.Core.Bool.{Bool, true, false, true≢false}
use mathlib.Core.List.{List}
use mathlib.Core.Logic.{◌≢◌}
use mathlib.Core.Path.{◌≡◌, refl, sym, ap, ◌∙◌}
use lib.IntN.{ℤ, pos, negsuc, suc_ℤ}
use lib.ListN.{length}
use borrow.Author.Tests.{ne_eqb}
use Rattle.lists.specs.Lists.{without, times, first_or, first}
use Rattle.lists.proofs.Bools.{either}
use Rattle.lists.proofs.ListLaws.{length_without, without-only, times-empty, length-empty}
use Rattle.tables.specs.declared.State.TheVariants.{Suspended, Waiting}
use Rattle.tables.specs.declared.Process.{Process}
use Rattle.tables.specs.declared.Semaphore.{Semaphore}
use Rattle.tables.specs.declared.Tables.{Tables}
use Rattle.tables.specs.Limits.{process_limit}
use Rattle.tables.specs.States.{is_free, is_current, is_ready, waits_on}
use Rattle.tables.specs.Readers.{free_slot, process, state_of, priority_of, is_used, count_of, queue, currents, current_of}
use Rattle.tables.specs.Setters.{in_state, with_process, with_semaphore, with_count}
use Rattle.tables.specs.Sound.{SlotSound, Laid, Counted, Running, Sound}
use Rattle.tables.proofs.SlotLaws.{free-sound, state-sound}
use Rattle.tables.proofs.LineLaws.{live_below, live-slot, used-entry}
use Rattle.tables.proofs.Sentences.{waiter-used, current-only, current-is, current-unique}
use Rattle.rules.specs.Schedule.{make_ready}
use Rattle.rules.specs.Calls.{switching, stop, finish}
use Rattle.rules.proofs.Moves.{Moved, moved-slot, laid-moved, falling-left, ready_moved, laid-ready}
use Rattle.rules.proofs.Resched.{Settled, line_kept, zero-other, zero-moved, settled-trans, Prepared, finished}
use Rattle.rules.proofs.Effects.{Effect, line-entry, laid-entry, running-entry, effect-done}

-- A slot is written anew, off the ready list

module _ {t : Tables} (l : Laid t) (p : ℕ) (below : p < process_limit) (y : Process) (hr : is_ready y.state ≡ false) where
  pub set-moved : Moved t (with_process t p y) p y
  set-moved = moved-slot t p y (live-slot l p below)

  pub laid-set : SlotSound p y → Laid (with_process t p y)
  laid-set s = laid-moved l set-moved s (falling-left l set-moved hr)

  -- whoever isn't current may be written anew while another runs
  pub running-set : 0 ≢ p → Running t → is_current (state_of t p) ≡ false → is_current y.state ≡ false → Running (with_process t p y)
  unfolding first_or
  running-set hz r hc hy =
      let same : currents (with_process t p y) ≡ currents t = line_kept set-moved is_current hy hc in
      let c-other : current_of t ≢ p = λ e. true≢false (sym (ap is_current (current-is r)) ∙ ap (λ (n : ℕ). is_current (state_of t n)) e ∙ hc) in
      let b : priority_of (with_process t p y) (current_of (with_process t p y)) ≡ priority_of t (current_of t) =
      ap (λ (c : List ℕ). priority_of (with_process t p y) (first c)) same ∙ ap (λ (x : Process). x.priority) (set-moved.other (current_of t) c-other) in
      record {
        one = ap length same ∙ r.one;
        zero = zero-other set-moved hz r.zero;
        top = λ q k. either q p
            (λ e. absurd (true≢false (sym (ap is_ready k) ∙ ap (λ (n : ℕ). is_ready (state_of (with_process t p y) n)) e ∙ ap (λ (x : Process). is_ready x.state) set-moved.same ∙ hr)))
            (λ e.
            let a : priority_of (with_process t p y) q ≡ priority_of t q = ap (λ (x : Process). x.priority) (set-moved.other q e) in
            omega (arith, r.top q (ap (λ (x : Process). x.state) (sym (set-moved.other q e)) ∙ k)));
      }

-- A process that waits on nothing stops

module _ {t : Tables} (S : Sound t) (p : ℕ) (below : p < process_limit) (hz : 0 ≢ p) (y : Process) (hr : is_ready y.state ≡ false) (hy : is_current y.state ≡ false) where
  few-left : (b : Bool) → is_current (state_of t p) ≡ b → length (currents (with_process t p y)) ≤ 1
  few-left true e = rw ((set-moved S.laid p below y hr).leaves is_current hy, current-only S.running, current-unique S p e, without-only p) (omega arith)
  few-left false e = let k : length (currents (with_process t p y)) ≡ 1 = (running-set S.laid p below y hr hz S.running e hy).one in omega arith

  stop-prepared : SlotSound p y → (v : ℤ) → Prepared (stop v t p y)
  stop-prepared s v =
      record {
        laid = laid-set S.laid p below y hr s;
        few = few-left (is_current (state_of t p)) refl;
        zero = zero-other (set-moved S.laid p below y hr) hz S.running.zero;
        runs = λ e. running-set S.laid p below y hr hz S.running e hy;
      }

  stop-settled : (v : ℤ) → Prepared (stop v t p y) → ((r : ℕ) → waits_on r y.state ≡ false) → ((r : ℕ) → waits_on r (state_of t p) ≡ false) → Settled t (finish (stop v t p y)).tables
  stop-settled v P hw hs = settled-trans refl (λ r. line_kept (set-moved S.laid p below y hr) (waits_on r) (hw r) (hs r)) (finished P)

module _ {t : Tables} (S : Sound t) (p : ℕ) (below : p < process_limit) (hz : 0 ≢ p) where
  -- it is suspended
  pub suspend-prepared : is_free (state_of t p) ≡ false → (v : ℤ) → Prepared (stop v t p (in_state Suspended (process t p)))
  suspend-prepared h v = stop-prepared S p below hz _ refl refl (state-sound p (process t p) Suspended h refl (S.laid.slot p)) v

  pub suspend-settled : is_free (state_of t p) ≡ false → ((r : ℕ) → waits_on r (state_of t p) ≡ false) → (v : ℤ) → Settled t (finish (stop v t p (in_state Suspended (process t p)))).tables
  suspend-settled h hs v = stop-settled S p below hz _ refl refl v (suspend-prepared h v) (λ r. refl) hs

  -- its slot is free
  pub free-prepared : (v : ℤ) → Prepared (stop v t p free_slot)
  free-prepared v = stop-prepared S p below hz free_slot refl refl (free-sound p) v

  pub free-settled : ((r : ℕ) → waits_on r (state_of t p) ≡ false) → (v : ℤ) → Settled t (finish (stop v t p free_slot)).tables
  free-settled hs v = stop-settled S p below hz free_slot refl refl v (free-prepared v) (λ r. refl) hs

-- A waiter stops

module _ {t : Tables} (S : Sound t) (p s : ℕ) (hz : 0 ≢ p) (h : state_of t p ≡ Waiting s) where
  waiter-in : p < process_limit
  waiter-in = live_below S.laid p (ap is_free h)

  laid-count : (c : ℤ) → Laid (with_count t s c)
  laid-count c = laid-entry S.laid s (record { used = is_used t s; count = c })

  waiter-runs : (c : ℤ) → Running (with_process (with_count t s c) p free_slot)
  waiter-runs c = running-set (laid-count c) p waiter-in free_slot refl hz (running-entry S.running s (record { used = is_used t s; count = c })) (ap is_current h) refl

  pub kill-prepared : (v c : ℤ) → Prepared (stop v (with_count t s c) p free_slot)
  kill-prepared v c =
      record {
        laid = laid-set (laid-count c) p waiter-in free_slot refl (free-sound p);
        few = omega (arith, (waiter-runs c).one);
        zero = zero-other (set-moved (laid-count c) p waiter-in free_slot refl) hz S.running.zero;
        runs = λ e. waiter-runs c;
      }

  pub kill-waiter : (v : ℤ) → Effect t (finish (stop v (with_count t s (suc_ℤ (count_of t s))) p free_slot)).tables s (is_used t s) (suc_ℤ (count_of t s)) (without p (queue t s))
  kill-waiter v =
      let x : Semaphore = record { used = is_used t s; count = suc_ℤ (count_of t s) } in
      let m = set-moved (laid-count (suc_ℤ (count_of t s))) p waiter-in free_slot refl in
      effect-done (stop v (with_semaphore t s x) p free_slot) s x (used-entry S.laid s (waiter-used S p s h)) (kill-prepared v (suc_ℤ (count_of t s))) refl
      (m.leaves (waits_on s) refl ∙ ap (without p) (line-entry t s x (waits_on s)))
      (λ r k. line_kept m (waits_on r) refl (ap (waits_on r) h ∙ ne_eqb s r (λ d. k (sym d))) ∙ line-entry t s x (waits_on r))

pub counted-kill : (c : ℤ) (q : List ℕ) (p : ℕ) → Counted c q → times p q ≡ 1 → Counted (suc_ℤ c) (without p q)
counted-kill (pos n) q p h k = absurd (times-empty p q k h)
counted-kill (negsuc zero) q p h k = length-empty (without p q) (let e : suc (length (without p q)) ≡ length q = length_without p q k in omega arith)
counted-kill (negsuc (suc n)) q p h k = let e : suc (length (without p q)) ≡ length q = length_without p q k in omega arith

-- A process is made ready

module _ {t : Tables} (S : Sound t) (p : ℕ) (h : state_of t p ≡ Suspended) where
  suspended-in : p < process_limit
  suspended-in = live_below S.laid p (ap is_free h)

  pub resume-prepared : (v : ℤ) → Prepared (switching v (make_ready t p))
  resume-prepared v =
      let m = ready_moved S.laid p suspended-in in
      record {
        laid = laid-ready S.laid p suspended-in (ap is_free h);
        few = rw (line_kept m is_current refl (ap is_current h), S.running.one) (omega arith);
        zero = zero-moved m refl S.running.zero;
        runs = λ e. absurd (true≢false e);
      }

  pub resume-settled : (v : ℤ) → Settled t (finish (switching v (make_ready t p))).tables
  resume-settled v =
      let m = ready_moved S.laid p suspended-in in
      settled-trans m.semaphores (λ s. line_kept m (waits_on s) refl (ap (waits_on s) h)) (finished (resume-prepared v))

pub yield-prepared : {t : Tables} → Sound t → (v : ℤ) → Prepared (switching v t)
yield-prepared S v = record { laid = S.laid; few = rw S.running.one (omega arith); zero = S.running.zero; runs = λ e. absurd (true≢false e) }

pub yield-settled : {t : Tables} → Sound t → (v : ℤ) → Settled t (finish (switching v t)).tables
yield-settled S v = finished (yield-prepared S v)
