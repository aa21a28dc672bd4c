-- How the tables are read. Past its table a slot reads as free, and a semaphore as unused.
use Rattle.std.specs.Prelude.{ℕ, get_or, ℤ, pos, Bool, false, not, List}
use Rattle.lists.specs.Lists.{filter, first, place_in}
use Rattle.lists.specs.Numbers.{count_up}
use Rattle.tables.specs.declared.State.{State}
use Rattle.tables.specs.declared.State.TheVariants.{Free}
use Rattle.tables.specs.declared.Process.{Process}
use Rattle.tables.specs.declared.Semaphore.{Semaphore}
use Rattle.tables.specs.declared.Tables.{Tables}
use Rattle.tables.specs.Limits.{process_limit}
use Rattle.tables.specs.States.{is_current, is_free, is_ready, waits_on}

abbrev pub free_slot : Process
free_slot = record { state = Free; priority = 0 }

abbrev pub free_semaphore : Semaphore
free_semaphore = record { used = false; count = pos 0 }

abbrev pub process : Tables → ℕ → Process
process t p = get_or t.processes p free_slot

abbrev pub state_of : Tables → ℕ → State
state_of t p = (process t p).state

abbrev pub priority_of : Tables → ℕ → ℕ
priority_of t p = (process t p).priority

abbrev pub semaphore : Tables → ℕ → Semaphore
semaphore t s = get_or t.semaphores s free_semaphore

abbrev pub is_used : Tables → ℕ → Bool
is_used t s = (semaphore t s).used

abbrev pub count_of : Tables → ℕ → ℤ
count_of t s = (semaphore t s).count

-- the processes whose state passes the test, in the order of the row
unfoldable pub line : Tables → (State → Bool) → List ℕ
line t test = filter (λ p. test (state_of t p)) t.order

abbrev pub ready_list : Tables → List ℕ
ready_list t = line t is_ready

abbrev pub queue : Tables → ℕ → List ℕ
queue t s = line t (waits_on s)

-- the place of p in the queue of s, counted from 1
abbrev pub place_of : Tables → ℕ → ℕ → ℕ
place_of t p s = place_in p (queue t s)

-- a slot that isn't free
abbrev pub is_live : Tables → ℕ → Bool
is_live t p = not (is_free (state_of t p))

-- the live processes, in rising number
unfoldable pub live : Tables → List ℕ
live t = filter (is_live t) (count_up 0 process_limit)

-- the process that is current: a list of one, or of none between two steps of a call
abbrev pub currents : Tables → List ℕ
currents t = line t is_current

abbrev pub current_of : Tables → ℕ
current_of t = first (currents t)

-- told as the process that runs where nobody is known to: no process has this number
abbrev pub nobody : ℕ
nobody = 255
