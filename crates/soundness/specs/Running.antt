-- Who runs, as the check finds it.
use Rattle.std.specs.Prelude.{if◌then◌else◌, ℕ, ◌+◌, Bool, Option, Some, None, eqb, length}
use Rattle.tables.specs.declared.State.{State}
use Rattle.tables.specs.declared.Tables.{Tables}
use Rattle.tables.specs.Limits.{process_limit}
use Rattle.tables.specs.Readers.{current_of, currents}
use Rattle.tables.specs.Test.{sound_now}
use Rattle.soundness.specs.Sums.{sum_below}

-- each that passes adds the limit and its number: one alone adds less than twice the limit
abbrev pub weight_of : Tables → (State → Bool) → ℕ
weight_of t test = sum_below t test (λ p. process_limit + p) process_limit

-- the one that is current, if it is the only one
abbrev pub sole_of : Tables → Option ℕ
sole_of t = if eqb (length (currents t)) 1 then Some (current_of t) else None

-- the current process of sound tables
abbrev pub runner_of : Tables → Option ℕ
runner_of t = if sound_now t then Some (current_of t) else None
