-- All who wait, read before any is moved: each at its place in the row, and nobody at the other places.
use Rattle.std.specs.Prelude.{ℕ, List, Option, get_or, ltb}
use Rattle.std.specs.Bool.{then_some}
use Rattle.std.specs.List.{filter_map}
use Rattle.lists.specs.Lists.{filter}
use Rattle.order.specs.Row.{by_byte}
use Rattle.tables.specs.Limits.{process_limit}
use Rattle.tables.specs.Readers.{state_of}
use Rattle.tables.specs.declared.Tables.{Tables}

-- who stands at place i, if the state is byte b
abbrev pub marked : Tables → ℕ → ℕ → Option ℕ
marked t b i = then_some (by_byte b (state_of t (get_or t.order i 0))) (get_or t.order i 0)

-- the entries that are process numbers
abbrev pub numbers : List (Option ℕ) → List ℕ
numbers xs = filter (λ p. ltb p process_limit) (filter_map (λ x. x) xs)
