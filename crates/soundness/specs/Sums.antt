-- What the loops of the check add up.
use Rattle.std.specs.Prelude.{if◌then◌else◌, ℕ, Bool}
use Rattle.lists.specs.Numbers.{total}
use Rattle.tables.specs.declared.State.{State}
use Rattle.tables.specs.declared.Tables.{Tables}
use Rattle.tables.specs.Limits.{process_limit}
use Rattle.tables.specs.Readers.{state_of}

-- the sum of w over the numbers below n of the processes whose state passes the test
abbrev pub sum_below : Tables → (State → Bool) → (ℕ → ℕ) → ℕ → ℕ
sum_below t test w n = total n (λ p. if test (state_of t p) then w p else 0)

-- how many slots pass
abbrev pub many_of : Tables → (State → Bool) → ℕ
many_of t test = sum_below t test (λ p. 1) process_limit
