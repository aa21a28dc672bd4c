-- Each call of the paper's table, told of sound tables in the paper's words (specs/Telling). A reader needs the statements;
-- the proofs cite the other files. A number below 0 is refused, so what is done is told of numbers from 0 up. Assumes nothing.
use Rattle.std.specs.Prelude.{if◌then◌else◌}
use Prim.Native.Nat.{ℕ, suc}
use mathlib.Core.Bool.{true, false, not, ◌||◌}
use mathlib.Core.List.{List, [], ◌∷◌, ◌++◌}
use mathlib.Core.Logic.{◌≢◌}
use mathlib.Core.Option.{some}
use mathlib.Core.Path.{◌≡◌, refl, ap, ◌∙◌}
use lib.Dec.{eqb}
use lib.IntN.{ℤ, pos, suc_ℤ, pred_ℤ}
use lib.ListN.{drop}
use lib.Signed.{◌≤ℤ◌}
use Rattle.lists.specs.Lists.{without, first}
use Rattle.lists.specs.Numbers.{FirstFrom}
use Rattle.lists.proofs.Bools.{not-false}
use Rattle.tables.specs.declared.State.TheVariants.{Current, Ready, Suspended, Waiting}
use Rattle.tables.specs.declared.Tables.{Tables}
use Rattle.tables.specs.Limits.{process_limit, semaphore_limit}
use Rattle.tables.specs.States.{is_free, is_current, is_ready, is_suspended, awaits}
use Rattle.tables.specs.Readers.{free_slot, free_semaphore, process, state_of, priority_of, is_used, count_of, line, ready_list, queue, currents, current_of}
use Rattle.tables.specs.Setters.{in_state, new_slot, with_count}
use Rattle.tables.specs.Sound.{Sound}
use Rattle.tables.proofs.States.{is-suspended}
use Rattle.tables.proofs.LineLaws.{at_same, line-absent, live-slot}
use Rattle.rules.specs.declared.Answer.TheVariants.{Done}
use Rattle.rules.specs.declared.Outcome.{Outcome}
use Rattle.rules.specs.Answers.{done}
use Rattle.rules.specs.declared.Call.{Call}
use Rattle.rules.specs.declared.Call.TheVariants.{Wait, Signal, MakeSemaphore, Delete, Reset, MakeProcess, Resume, Suspend, Kill, Yield, Count}
use Rattle.rules.specs.Calls.{below0, free_semaphores, free_slots, Accepted, step}
use Rattle.rules.specs.Seen.{in_use, not_in_use}
use Rattle.telling.specs.Telling.{MakesNothing, CountGoesOn, Spares, PassesBy, seats, seated, behind, head_runs, reseat, released, Changes, Keeps}
use Rattle.rules.proofs.Slots.{kill-prepared}
use Rattle.rules.proofs.Found.{slot-found, semaphore-found}
use Rattle.rules.proofs.Refusals.{step-done, null-waits-none}
use Rattle.rules.proofs.Changes.{not_null, used, call-changes}
use Rattle.telling.proofs.Seats.{seats-entry, seats-cursors, seats-blocked, seats-woken, seats-resumed, seats-yielded, seats-stopped-current, seats-stopped-other, seats-released}
use Rattle.telling.proofs.Fields.{cursors-kept, priority-stays}
use Rattle.telling.proofs.Counts.{step-stands}
use Rattle.telling.proofs.Others.{slot-stopped, slot-stays}
use Rattle.telling.proofs.Telling.{tell-changes, did-keep, did-rewrite, only-current, made-semaphore, made-process, slot-seats, slot_of, suspending, killing, kill-step, kill-did, kill-keeps, kill-frees}

-- Cursors

-- no call but a make moves a cursor
pub cursors-stay : (t : Tables) (c : Call) → MakesNothing c → ((step t c).tables.next_semaphore ≡ t.next_semaphore) × ((step t c).tables.next_process ≡ t.next_process)
cursors-stay = cursors-kept

-- Counts

-- no count falls but by a wait, a delete or a reset of its semaphore
pub counts-stand : {t : Tables} → Sound t → (c : Call) (s : ℕ) → CountGoesOn c s → c ≢ Wait (pos s) → count_of t s ≤ℤ count_of (step t c).tables s
counts-stand S c s g w = step-stands S c s g (λ k. w)

-- and by no wait of process 0, since none is accepted
pub null-lowers-none : {t : Tables} → Sound t → current_of t ≡ 0 → (c : Call) (s : ℕ) → CountGoesOn c s → count_of t s ≤ℤ count_of (step t c).tables s
null-lowers-none {t} S z c s g = step-stands S c s g (λ k. null-waits-none t z c k (pos s))

-- Processes that a call doesn't speak of

-- no priority changes but by a make or a kill
pub priorities-stay : (t : Tables) (c : Call) (x : ℕ) → Spares t c x → priority_of (step t c).tables x ≡ priority_of t x
priorities-stay = priority-stays

-- a free or suspended process stays so, unless the call makes, kills, resumes or suspends it
pub quiet-stay : {t : Tables} → Sound t → (x : ℕ) → (is_free (state_of t x) || is_suspended (state_of t x)) ≡ true → (c : Call) → PassesBy t c x → process (step t c).tables x ≡ process t x
quiet-stay = slot-stays

module _ {t : Tables} (S : Sound t) where
  -- 01 wait s: count minus 1

  -- the new count is below 0: the caller waits at the queue's tail, no other queue changes, and the first ready process runs
  pub wait-blocks : (s : ℕ) → Accepted t (Wait (pos s)) → below0 (pred_ℤ (count_of t s)) ≡ true
      → Changes t (step t (Wait (pos s))) (pos 1) s (in_use (pred_ℤ (count_of t s)) (queue t s ++ current_of t ∷ [])) (head_runs (ready_list t))
  wait-blocks s k h =
      tell-changes S (Wait (pos s)) (step-done t (Wait (pos s)) k ∙ rw h) refl (rw h at (call-changes S (Wait (pos s)) k).1)
      (seats-blocked S s (used t s k.1.0) (pred_ℤ (count_of t s)) (not_null (current_of t) k.1.1.0))

  -- it isn't: no queue changes, and the caller still runs
  pub wait-passes : (s : ℕ) → Accepted t (Wait (pos s)) → below0 (pred_ℤ (count_of t s)) ≡ false → Changes t (step t (Wait (pos s))) (pos 1) s (in_use (pred_ℤ (count_of t s)) (queue t s)) (seats t)
  wait-passes s k h = tell-changes S (Wait (pos s)) (step-done t (Wait (pos s)) k ∙ rw h) refl (rw h at (call-changes S (Wait (pos s)) k).1) (seats-entry t s _)

  -- 02 signal s: count plus 1

  -- the old count was below 0: the queue's head becomes ready, no other queue changes, then reschedule
  pub signal-releases : (s : ℕ) → Accepted t (Signal (pos s)) → below0 (count_of t s) ≡ true
      → Changes t (step t (Signal (pos s))) (pos 1) s (in_use (suc_ℤ (count_of t s)) (drop 1 (queue t s))) (reseat (priority_of t) (behind (priority_of t) (first (queue t s)) (ready_list t)) (currents t))
  signal-releases s k h = tell-changes S (Signal (pos s)) (step-done t (Signal (pos s)) k ∙ rw h) refl (rw h at (call-changes S (Signal (pos s)) k).1) (seats-woken S s (used t s k.1.0) (suc_ℤ (count_of t s)) h)

  -- it wasn't: no queue changes, and the caller still runs
  pub signal-counts : (s : ℕ) → Accepted t (Signal (pos s)) → below0 (count_of t s) ≡ false → Changes t (step t (Signal (pos s))) (pos 1) s (in_use (suc_ℤ (count_of t s)) (queue t s)) (seats t)
  signal-counts s k h = tell-changes S (Signal (pos s)) (step-done t (Signal (pos s)) k ∙ rw h) refl (rw h at (call-changes S (Signal (pos s)) k).1) (seats-entry t s _)

  -- 03 make a semaphore, count a; s is the number answered

  module _ (a : ℤ) (s : ℕ) (k : Accepted t (MakeSemaphore a)) (e : (step t (MakeSemaphore a)).answer ≡ Done (pos s)) where
    -- it is the first free one from the cursor on, going round
    pub make-semaphore-first : FirstFrom (λ s. not (is_used t s)) semaphore_limit t.next_semaphore s
    make-semaphore-first = rw (← (made-semaphore S a s k e)) (semaphore-found S k.1.0)

    -- it is in use then, with count a and no queue; no other semaphore and no seat changes
    pub make-semaphore-makes : Changes t (step t (MakeSemaphore a)) (pos s) s (in_use a []) (seats t)
    make-semaphore-makes = rw (← (made-semaphore S a s k e)) (did-rewrite S (MakeSemaphore a) k _ _ refl (seats-cursors _ _ _ ∙ seats-entry t (first (free_semaphores t)) _))

    -- the cursor is one past it, and the limit becomes 0
    pub make-semaphore-cursor : (step t (MakeSemaphore a)).tables.next_semaphore ≡ (if eqb (suc s) semaphore_limit then 0 else suc s)
    make-semaphore-cursor = rw (← (made-semaphore S a s k e)) (ap (λ (o : Outcome). o.tables.next_semaphore) (step-done t (MakeSemaphore a) k))

  -- 04 delete s: the entry is free, count 0; all waiters become ready in queue order; then one reschedule if there was any
  pub delete-frees : (s : ℕ) → Accepted t (Delete (pos s)) → Changes t (step t (Delete (pos s))) (pos 1) s not_in_use (released t s)
  delete-frees s k = did-rewrite S (Delete (pos s)) k s free_semaphore refl (seats-released S s free_semaphore)

  -- 05 reset s to b: all waiters become ready in queue order, count b; then one reschedule if there was any
  pub reset-sets : (s : ℕ) (b : ℤ) → Accepted t (Reset (pos s) b) → Changes t (step t (Reset (pos s) b)) (pos 1) s (in_use b []) (released t s)
  reset-sets s b k = did-rewrite S (Reset (pos s) b) k s _ refl (seats-released S s (record { used = true; count = b }))

  -- 06 make a process, priority n; p is the number answered

  module _ (n p : ℕ) (k : Accepted t (MakeProcess (pos n))) (e : (step t (MakeProcess (pos n))).answer ≡ Done (pos p)) where
    -- it is the first free one from the cursor on, going round
    pub make-process-first : FirstFrom (λ p. is_free (state_of t p)) process_limit t.next_process p
    make-process-first = rw (← (made-process S (pos n) p k e)) (slot-found S k.1.0)

    -- no semaphore and no seat changes
    pub make-process-keeps : Keeps t (step t (MakeProcess (pos n))) (pos p) (seats t)
    make-process-keeps =
        rw (← (made-process S (pos n) p k e)) (did-keep S (MakeProcess (pos n)) k refl (seats-cursors _ _ _ ∙ slot-seats S _ refl refl k.1.0))

    -- it is suspended then, with priority n
    pub make-process-slot : process (step t (MakeProcess (pos n))).tables p ≡ new_slot n
    make-process-slot = rw (← (made-process S (pos n) p k e), step-done t (MakeProcess (pos n)) k) (at_same t (first (free_slots t)) _ (live-slot S.laid (first (free_slots t)) (slot-found S k.1.0).below))

    -- the cursor is one past it, and the limit becomes 0
    pub make-process-cursor : (step t (MakeProcess (pos n))).tables.next_process ≡ (if eqb (suc p) process_limit then 0 else suc p)
    make-process-cursor = rw (← (made-process S (pos n) p k e)) (ap (λ (o : Outcome). o.tables.next_process) (step-done t (MakeProcess (pos n)) k))

  -- 07 resume p: a suspended process becomes ready, then reschedule; its priority
  pub resume-readies : (p : ℕ) → Accepted t (Resume (pos p)) → Keeps t (step t (Resume (pos p))) (pos (priority_of t p)) (reseat (priority_of t) (behind (priority_of t) p (ready_list t)) (currents t))
  resume-readies p k =
      did-keep S (Resume (pos p)) k refl
      (seats-resumed S p (is-suspended (state_of t p) (not-false (is_suspended (state_of t p)) k.1.1.0)) (pos (priority_of t p)))

  -- 08 suspend p; its priority

  -- a ready process leaves the list
  pub suspend-ready : (p : ℕ) → Accepted t (Suspend (pos p)) → state_of t p ≡ Ready → Keeps t (step t (Suspend (pos p))) (pos (priority_of t p)) (seated (without p (ready_list t)) (currents t))
  suspend-ready p k h = did-keep S (Suspend (pos p)) k refl (seats-stopped-other _ t p _ (suspending S p k) (slot_of S p k.0) refl refl (ap is_current h))

  -- the current one stops, and the first ready process runs
  pub suspend-current : (p : ℕ) → Accepted t (Suspend (pos p)) → state_of t p ≡ Current → Keeps t (step t (Suspend (pos p))) (pos (priority_of t p)) (head_runs (ready_list t))
  suspend-current p k h = did-keep S (Suspend (pos p)) k refl (seats-stopped-current _ t p _ (suspending S p k) (slot_of S p k.0) refl refl h (only-current S p h))

  -- it is suspended then, and keeps its priority
  pub suspend-slot : (p : ℕ) → Accepted t (Suspend (pos p)) → process (step t (Suspend (pos p))).tables p ≡ in_state Suspended (process t p)
  suspend-slot p k = rw (step-done t (Suspend (pos p)) k) (slot-stopped (pos (priority_of t p)) t p _ (slot_of S p k.0) refl refl)

  -- 09 kill p

  -- a ready one leaves the list
  pub kill-ready : (p : ℕ) → Accepted t (Kill (pos p)) → state_of t p ≡ Ready → Keeps t (step t (Kill (pos p))) (pos 1) (seated (without p (ready_list t)) (currents t))
  kill-ready p k h = kill-keeps S p k (ap awaits h) (seats-stopped-other (pos 1) t p free_slot (killing S p k) (slot_of S p k.0) refl refl (ap is_current h))

  -- a suspended one leaves no list
  pub kill-suspended : (p : ℕ) → Accepted t (Kill (pos p)) → state_of t p ≡ Suspended → Keeps t (step t (Kill (pos p))) (pos 1) (seats t)
  kill-suspended p k h =
      kill-keeps S p k (ap awaits h)
      (seats-stopped-other (pos 1) t p free_slot (killing S p k) (slot_of S p k.0) refl refl (ap is_current h) ∙ rw (line-absent t p is_ready (ap is_ready h)))

  -- the current one stops, and the first ready process runs
  pub kill-current : (p : ℕ) → Accepted t (Kill (pos p)) → state_of t p ≡ Current → Keeps t (step t (Kill (pos p))) (pos 1) (head_runs (ready_list t))
  kill-current p k h = kill-keeps S p k (ap awaits h) (seats-stopped-current (pos 1) t p free_slot (killing S p k) (slot_of S p k.0) refl refl h (only-current S p h))

  -- a waiting one leaves its queue, no other queue changes, and that count goes up by 1; nobody is released
  pub kill-waiting : (p : ℕ) → Accepted t (Kill (pos p)) → (s : ℕ) → state_of t p ≡ Waiting s → Changes t (step t (Kill (pos p))) (pos 1) s (in_use (suc_ℤ (count_of t s)) (without p (queue t s))) (seats t)
  unfolding line
  kill-waiting p k s h =
      tell-changes S (Kill (pos p)) (kill-step S p k (some s) (ap awaits h)) refl (kill-did S p k (some s) (ap awaits h))
      (seats-stopped-other (pos 1) (with_count t s (suc_ℤ (count_of t s))) p free_slot (kill-prepared S p s (not_null p k.1.0) h (pos 1) (suc_ℤ (count_of t s))) (slot_of S p k.0) refl refl (ap is_current h)
      ∙ ap (λ (r : List ℕ). seated r (currents t)) (line-absent t p is_ready (ap is_ready h)))

  -- the slot is free then, with priority 0
  pub kill-slot : (p : ℕ) → Accepted t (Kill (pos p)) → process (step t (Kill (pos p))).tables p ≡ free_slot
  kill-slot p k = rw (step-done t (Kill (pos p)) k) (kill-frees S p k.0 (awaits (state_of t p)))

  -- 0a yield: reschedule
  pub yield-reschedules : Keeps t (step t Yield) (pos 1) (reseat (priority_of t) (ready_list t) (currents t))
  yield-reschedules = did-keep S Yield tt refl (seats-yielded S (pos 1))

  -- 0b count of s: nothing changes; the count
  pub count-tells : (s : ℕ) → Accepted t (Count (pos s)) → step t (Count (pos s)) ≡ done (count_of t s) t
  count-tells s k = step-done t (Count (pos s)) k
