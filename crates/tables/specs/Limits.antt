-- The limits of the tables. `Tables::limits` ties each to the constant that the code is written with.
use Rattle.std.specs.Prelude.{ℕ}

-- processes are numbered from 0 up to, and without, this
abbrev pub process_limit : ℕ
process_limit = 32

-- semaphores likewise
abbrev pub semaphore_limit : ℕ
semaphore_limit = 120

-- the highest priority
abbrev pub priority_limit : ℕ
priority_limit = 63
