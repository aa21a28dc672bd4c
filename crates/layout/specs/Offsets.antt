-- Where each field of the tables begins in the lent bytes. `offsets` ties each to the constant that the code is written with.
use Rattle.std.specs.Prelude.{ℕ, ◌+◌, ◌*◌}
use Rattle.tables.specs.Limits.{process_limit, semaphore_limit}

-- 32 states
abbrev pub states_at : ℕ
states_at = 0

-- 32 priorities
abbrev pub priorities_at : ℕ
priorities_at = states_at + process_limit

-- 120 used flags
abbrev pub used_at : ℕ
used_at = priorities_at + process_limit

-- 120 counts of 4 bytes
abbrev pub counts_at : ℕ
counts_at = used_at + semaphore_limit

-- 32 places of the row
abbrev pub order_at : ℕ
order_at = counts_at + 4 * semaphore_limit

-- the two cursors
abbrev pub next_semaphore_at : ℕ
next_semaphore_at = order_at + process_limit

abbrev pub next_process_at : ℕ
next_process_at = next_semaphore_at + 1

abbrev pub size : ℕ
size = next_process_at + 1
