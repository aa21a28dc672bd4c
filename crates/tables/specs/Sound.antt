-- When tables are sound, in the paper's words. `Test` has the test that is computed, and proofs/Sentences what follows from these facts by the row.
use Rattle.std.specs.Prelude.{if◌then◌else◌, ℕ, suc, ◌≤◌, ◌<◌, ◌≡◌, true, false, ◌||◌, List, [], ◌≢◌, length, ℤ, pos, negsuc, ltb}
use Rattle.lists.specs.Lists.{times, Falling}
use Rattle.tables.specs.declared.State.TheVariants.{Ready, Waiting}
use Rattle.tables.specs.declared.Process.{Process}
use Rattle.tables.specs.declared.Tables.{Tables}
use Rattle.tables.specs.Limits.{process_limit, semaphore_limit, priority_limit}
use Rattle.tables.specs.States.{is_free, is_current, is_ready}
use Rattle.tables.specs.Readers.{process, state_of, priority_of, count_of, is_used, ready_list, queue, currents, current_of}

-- a slot: the null process has priority 0, a free slot has priority 0, the others have priority 1 to 63 while live
pub record SlotSound (p : ℕ) (x : Process) : Type 0 where
  pub idle : p ≡ 0 → x.priority ≡ 0
  pub free : is_free x.state ≡ true → x.priority ≡ 0
  pub live : p ≢ 0 → is_free x.state ≡ false → (1 ≤ x.priority) × (x.priority ≤ priority_limit)

-- how the tables are laid
pub record Laid (t : Tables) : Type 0 where
  pub slots : length t.processes ≡ process_limit
  pub entries : length t.semaphores ≡ semaphore_limit
  pub places : length t.order ≡ process_limit
  -- every process number stands in the row exactly once, and nothing else does
  pub order : (p : ℕ) → times p t.order ≡ (if ltb p process_limit then 1 else 0)
  -- the ready list is in falling or equal priority
  pub falling : Falling (priority_of t) (ready_list t)
  pub slot : (p : ℕ) → SlotSound p (process t p)
  pub cursors : (t.next_semaphore < semaphore_limit) × (t.next_process < process_limit)

-- a count of -n goes with n waiting, n > 0; one of at least 0 with none
abbrev pub Counted : ℤ → List ℕ → Type 0
Counted (pos n) q = q ≡ []
Counted (negsuc n) q = length q ≡ suc n

-- the semaphores and their queues
pub record Queued (t : Tables) : Type 0 where
  pub counted : (s : ℕ) → Counted (count_of t s) (queue t s)
  -- a free semaphore has count 0, and so no queue
  pub unused : (s : ℕ) → is_used t s ≡ false → count_of t s ≡ pos 0

-- who runs
pub record Running (t : Tables) : Type 0 where
  -- exactly one process is current
  pub one : length (currents t) ≡ 1
  -- process 0 is current or ready
  pub zero : (is_current (state_of t 0) || is_ready (state_of t 0)) ≡ true
  -- no ready process has a higher priority than the current one
  pub top : (p : ℕ) → state_of t p ≡ Ready → priority_of t p ≤ priority_of t (current_of t)

pub record Sound (t : Tables) : Type 0 where
  pub laid : Laid t
  pub queued : Queued t
  pub running : Running t

-- the paper's sentences on lists and queues that the row makes true of themselves
pub record Sentences (t : Tables) : Type 0 where
  -- the ready list holds each ready process once and nobody else
  pub ready_once : (p : ℕ) → times p (ready_list t) ≡ (if is_ready (state_of t p) then 1 else 0)
  -- a semaphore's queue holds each process that waits on it once
  pub queued_once : (p s : ℕ) → state_of t p ≡ Waiting s → times p (queue t s) ≡ 1
  -- and nobody else
  pub queued_only : (p s : ℕ) → 1 ≤ times p (queue t s) → state_of t p ≡ Waiting s
  -- each waiting process waits on a used semaphore
  pub waits_used : (p s : ℕ) → state_of t p ≡ Waiting s → is_used t s ≡ true
  -- a free semaphore has no queue
  pub no_queue : (s : ℕ) → is_used t s ≡ false → queue t s ≡ []
