-- How the tables are changed. No other file builds tables from their fields, but for `Boot`, and none a slot, but for the free one in `Readers`.
use Rattle.std.specs.Prelude.{ℕ, set, ℤ, Bool, List}
use Rattle.tables.specs.declared.State.{State}
use Rattle.tables.specs.declared.Process.{Process}
use Rattle.tables.specs.declared.Semaphore.{Semaphore}
use Rattle.tables.specs.declared.Tables.{Tables}
use Rattle.tables.specs.declared.State.TheVariants.{Suspended}
use Rattle.tables.specs.Readers.{free_slot, process, is_used, count_of}

-- Slots

abbrev pub in_state : State → Process → Process
in_state st x = record { state = st; priority = x.priority }

abbrev pub ranked : ℕ → Process → Process
ranked n x = record { state = x.state; priority = n }

-- the slot of a process that is made with this priority
abbrev pub new_slot : ℕ → Process
new_slot n = ranked n (in_state Suspended free_slot)

-- Tables

abbrev pub with_processes : Tables → List Process → Tables
with_processes t xs = record { processes = xs; semaphores = t.semaphores; order = t.order; next_semaphore = t.next_semaphore; next_process = t.next_process }

abbrev pub with_semaphores : Tables → List Semaphore → Tables
with_semaphores t xs = record { processes = t.processes; semaphores = xs; order = t.order; next_semaphore = t.next_semaphore; next_process = t.next_process }

abbrev pub with_order : Tables → List ℕ → Tables
with_order t xs = record { processes = t.processes; semaphores = t.semaphores; order = xs; next_semaphore = t.next_semaphore; next_process = t.next_process }

abbrev pub with_cursors : Tables → ℕ → ℕ → Tables
with_cursors t s p = record { processes = t.processes; semaphores = t.semaphores; order = t.order; next_semaphore = s; next_process = p }

abbrev pub with_process : Tables → ℕ → Process → Tables
with_process t p x = with_processes t (set t.processes p x)

abbrev pub with_semaphore : Tables → ℕ → Semaphore → Tables
with_semaphore t s x = with_semaphores t (set t.semaphores s x)

abbrev pub with_state : Tables → ℕ → State → Tables
with_state t p st = with_process t p (in_state st (process t p))

abbrev pub with_priority : Tables → ℕ → ℕ → Tables
with_priority t p n = with_process t p (ranked n (process t p))

abbrev pub with_used : Tables → ℕ → Bool → Tables
with_used t s u = with_semaphore t s (record { used = u; count = count_of t s })

abbrev pub with_count : Tables → ℕ → ℤ → Tables
with_count t s c = with_semaphore t s (record { used = is_used t s; count = c })

abbrev pub with_next_semaphore : Tables → ℕ → Tables
with_next_semaphore t s = with_cursors t s t.next_process

abbrev pub with_next_process : Tables → ℕ → Tables
with_next_process t p = with_cursors t t.next_semaphore p
