-- How many wait on each semaphore, as it is counted.
use Rattle.std.specs.Prelude.{if◌then◌else◌, ℕ, ◌+◌, ◌-◌, ◌/◌, ◌<◌, ◌≤◌, ◌≡◌, Bool, List, ltb, get_or, length}
use Rattle.lists.specs.Numbers.{total}
use Rattle.tables.specs.declared.Tables.{Tables}
use Rattle.tables.specs.Limits.{process_limit, semaphore_limit}
use Rattle.tables.specs.Readers.{semaphore, state_of}
use Rattle.tables.specs.States.{waits_on}
use Rattle.tables.specs.Test.{semaphore_fits}
use Rattle.layout.specs.Bytes.{waiting_from}

-- processes that a tally is of
abbrev pub half_limit : ℕ
half_limit = process_limit / 2

-- a cell for each semaphore, and a spare one for each process of the tally
abbrev pub cell_limit : ℕ
cell_limit = semaphore_limit + half_limit

-- where process i of a tally is counted, by its state byte: at its semaphore, or at its spare cell
abbrev pub cell_of : ℕ → ℕ → ℕ
cell_of i state = if ltb state waiting_from then semaphore_limit + i else (state - waiting_from)

-- the cells after n processes, from one on: whoever waits is counted at the semaphore, and nobody twice
pub record Tallied (t : Tables) (from n : ℕ) (cells : List ℕ) : Type 0 where
  pub long : length cells ≡ cell_limit
  pub few : (k : ℕ) → get_or cells k 0 ≤ n
  pub said : (s : ℕ) → s < semaphore_limit → get_or cells s 0 ≡ total n (λ p. if waits_on s (state_of t (from + p)) then 1 else 0)

-- the count of semaphore s goes with those counted in both tallies
abbrev pub counted_fits : Tables → List ℕ → List ℕ → ℕ → Bool
counted_fits t many more s = semaphore_fits (semaphore t s) (get_or many s 0 + get_or more s 0)
