-- The eleven calls: the checks in order, what is done, the value.
use Rattle.std.specs.Prelude.{if◌then◌else◌, ℕ, suc, ℤ, pos, negsuc, nat_abs, eqb, Bool, true, false, not, ◌||◌, List, [], ◌∷◌}
use Rattle.std.proofs.Math.IntN.{suc_ℤ, pred_ℤ}
use Rattle.std.specs.Int.Signed.{lt_z, le_z}
use Rattle.std.proofs.Math.Option.{Option, none, some}
use Rattle.lists.specs.Lists.{filter, is_empty, first}
use Rattle.lists.specs.Numbers.{round_from}
use Rattle.tables.specs.declared.State.{State}
use Rattle.tables.specs.declared.State.TheVariants.{Free, Current, Ready, Suspended, Waiting}
use Rattle.tables.specs.declared.Process.{Process}
use Rattle.tables.specs.declared.Semaphore.{Semaphore}
use Rattle.tables.specs.declared.Tables.{Tables}
use Rattle.tables.specs.Limits.{process_limit, semaphore_limit, priority_limit}
use Rattle.tables.specs.States.{is_free, is_current, is_ready, is_suspended, awaits}
use Rattle.tables.specs.Readers.{free_slot, free_semaphore, process, state_of, priority_of, count_of, is_used, queue, current_of}
use Rattle.tables.specs.Setters.{in_state, new_slot, with_process, with_semaphore, with_count, with_next_semaphore, with_next_process}
use Rattle.rules.specs.declared.Call.{Call}
use Rattle.rules.specs.declared.Call.TheVariants.{Wait, Signal, MakeSemaphore, Delete, Reset, MakeProcess, Resume, Suspend, Kill, Yield, Count}
use Rattle.rules.specs.declared.Outcome.{Outcome}
use Rattle.rules.specs.Schedule.{make_ready, make_all_ready, make_wait, reschedule}
use Rattle.rules.specs.Answers.{Check, ◌when◌, NoneHolds, unless, done, refused}

-- Tests of an argument

abbrev pub below0 : ℤ → Bool
below0 (pos n) = false
below0 (negsuc n) = true

-- no number from 0 up to, and without, the limit
abbrev pub outside : ℕ → ℤ → Bool
outside limit a = below0 a || le_z (pos limit) a

-- the largest count
abbrev pub largest : ℤ
largest = pos 2147483647

-- Checks that several calls share

abbrev pub no_semaphore : ℤ → Check
no_semaphore a = 1 when outside semaphore_limit a

abbrev pub not_used : Tables → ℤ → Check
not_used t a = 2 when not (is_used t (nat_abs a))

abbrev pub no_count : ℤ → Check
no_count a = 3 when below0 a

abbrev pub no_process : ℤ → Check
no_process a = 6 when outside process_limit a

-- the number that names the state in which a process is found
abbrev pub state_refusal : State → ℕ
state_refusal Free = 7
state_refusal Current = 17
state_refusal Ready = 18
state_refusal Suspended = 9
state_refusal (Waiting s) = 19

abbrev pub not_live : Tables → ℤ → Check
not_live t a = state_refusal Free when is_free (state_of t (nat_abs a))

-- its state isn't one that the call is for
abbrev pub wrong_state : (State → Bool) → Tables → ℤ → Check
wrong_state right t a = let st : State = state_of t (nat_abs a) in state_refusal st when not (right st)

abbrev pub null_process : ℕ → Check
null_process p = 10 when eqb p 0

-- Searches

-- the free semaphores from the cursor on, going round
abbrev pub free_semaphores : Tables → List ℕ
free_semaphores t = filter (λ s. not (is_used t s)) (round_from semaphore_limit t.next_semaphore)

-- the free slots likewise; slot 0 is never free
abbrev pub free_slots : Tables → List ℕ
free_slots t = filter (λ p. is_free (state_of t p)) (round_from process_limit t.next_process)

-- one past n, where the limit becomes 0
abbrev pub one_past : ℕ → ℕ → ℕ
one_past limit n = if eqb (suc n) limit then 0 else suc n

-- What is done: the tables, whether a reschedule follows, the value

pub record Deed : Type 0 where
  pub tables : Tables
  pub reschedules : Bool
  pub value : ℤ

abbrev pub plain : ℤ → Tables → Deed
plain v t = record { tables = t; reschedules = false; value = v }

abbrev pub switching : ℤ → Tables → Deed
switching v t = record { tables = t; reschedules = true; value = v }

-- count minus 1; if the new count is below 0 the caller waits at the queue's tail, then reschedule
abbrev pub wait_on : Tables → ℕ → Deed
wait_on t s =
    let c : ℤ = pred_ℤ (count_of t s) in
    if below0 c then switching (pos 1) (make_wait (with_count t s c) (current_of t) s) else plain (pos 1) (with_count t s c)

-- count plus 1; if the old count was below 0 the queue's head becomes ready, then reschedule
abbrev pub signal_on : Tables → ℕ → Deed
signal_on t s =
    let c : ℤ = count_of t s in
    if below0 c then switching (pos 1) (make_ready (with_count t s (suc_ℤ c)) (first (queue t s))) else plain (pos 1) (with_count t s (suc_ℤ c))

-- the entry as given; all waiters become ready in queue order; then one reschedule if there was any
-- (document 001's prose has the end of deferral reschedule always; ours does so only if a waiter was released)
abbrev pub release : Tables → ℕ → Semaphore → Deed
release t s x = record { tables = make_all_ready (with_semaphore t s x) (queue t s); reschedules = not (is_empty (queue t s)); value = pos 1 }

abbrev pub new_semaphore : Tables → ℕ → ℤ → Deed
new_semaphore t s c = plain (pos s) (with_next_semaphore (with_semaphore t s (record { used = true; count = c })) (one_past semaphore_limit s))

abbrev pub new_process : Tables → ℕ → ℕ → Deed
new_process t p priority = plain (pos p) (with_next_process (with_process t p (new_slot priority)) (one_past process_limit p))

-- the slot as given; a reschedule only if it was the current process's
abbrev pub stop : ℤ → Tables → ℕ → Process → Deed
stop v t p x = record { tables = with_process t p x; reschedules = is_current (state_of t p); value = v }

-- a waiting one leaves its queue and that count goes up by 1; it releases nobody
abbrev pub uncounted : Tables → Option ℕ → Tables
uncounted t none = t
uncounted t (some s) = with_count t s (suc_ℤ (count_of t s))

-- The two tables of the paper

-- the checks of a call, in order
-- (document 001 lets process 0 wait, ours refuses that with 10; its signal can wrap at the top, ours is refused with 5)
abbrev pub checks : Tables → Call → List Check
checks t (Wait a) = no_semaphore a ∷ not_used t a ∷ null_process (current_of t) ∷ []
checks t (Signal a) = no_semaphore a ∷ not_used t a ∷ (5 when le_z largest (count_of t (nat_abs a))) ∷ []
checks t (MakeSemaphore a) = no_count a ∷ (4 when is_empty (free_semaphores t)) ∷ []
checks t (Delete a) = no_semaphore a ∷ not_used t a ∷ []
checks t (Reset a b) = no_count b ∷ no_semaphore a ∷ not_used t a ∷ []
checks t (MakeProcess a) = (11 when lt_z a (pos 1) || lt_z (pos priority_limit) a) ∷ (8 when is_empty (free_slots t)) ∷ []
checks t (Resume a) = no_process a ∷ not_live t a ∷ wrong_state is_suspended t a ∷ []
checks t (Suspend a) = no_process a ∷ null_process (nat_abs a) ∷ not_live t a ∷ wrong_state (λ st. is_ready st || is_current st) t a ∷ []
checks t (Kill a) = no_process a ∷ null_process (nat_abs a) ∷ not_live t a ∷ []
checks t Yield = []
checks t (Count a) = no_semaphore a ∷ not_used t a ∷ []

-- none of them holds, so that the call is done
abbrev pub Accepted : Tables → Call → Type 0
Accepted t c = NoneHolds (checks t c)

-- what a call does when no check holds
-- (document 001's delete leaves a leftover count in the freed entry, ours is 0)
abbrev pub deed : Tables → Call → Deed
deed t (Wait a) = wait_on t (nat_abs a)
deed t (Signal a) = signal_on t (nat_abs a)
deed t (MakeSemaphore a) = new_semaphore t (first (free_semaphores t)) a
deed t (Delete a) = release t (nat_abs a) free_semaphore
deed t (Reset a b) = release t (nat_abs a) (record { used = true; count = b })
deed t (MakeProcess a) = new_process t (first (free_slots t)) (nat_abs a)
deed t (Resume a) = switching (pos (priority_of t (nat_abs a))) (make_ready t (nat_abs a))
deed t (Suspend a) = stop (pos (priority_of t (nat_abs a))) t (nat_abs a) (in_state Suspended (process t (nat_abs a)))
deed t (Kill a) = stop (pos 1) (uncounted t (awaits (state_of t (nat_abs a)))) (nat_abs a) free_slot
deed t Yield = switching (pos 1) t
deed t (Count a) = plain (count_of t (nat_abs a)) t

-- the one place that reschedules
abbrev pub finish : Deed → Outcome
finish d = done d.value (if d.reschedules then reschedule d.tables else d.tables)

unfoldable pub step : Tables → Call → Outcome
step t c = unless (λ n. refused n t) (checks t c) (finish (deed t c))
