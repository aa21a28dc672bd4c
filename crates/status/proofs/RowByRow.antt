-- The rows one by one. Assumes nothing.
use Prim.Native.Nat.{◌<◌, ℕ}
use mathlib.Core.List.{map}
use mathlib.Core.Path.{◌≡◌, ap, sym}
use lib.ListN.{get_or-map, get_or, length, length-map}
use Rattle.lists.specs.Numbers.{listed}
use Rattle.tables.specs.Readers.{live}
use Rattle.tables.specs.declared.Tables.{Tables}
use Rattle.lists.proofs.NumberLaws.{listed-all}
use Rattle.status.specs.declared.Row.{Row}
use Rattle.status.specs.Rows.{row_of, rows}
use Rattle.status.specs.Search.{row_from}
use Rattle.status.proofs.LiveLaws.{next-first, next_of}

module _ (t : Tables) where
  -- the row of the live process with i live ones before it
  abbrev pub row_at : ℕ → Row
  row_at i = row_of t (get_or (live t) i 0)

  pub rows_long : length (rows t) ≡ length (live t)
  unfolding rows
  rows_long = length-map (live t) (row_of t)

  pub rows-each : listed 0 (length (live t)) row_at ≡ rows t
  unfolding rows
  rows-each = listed-all (row_of t 0) row_at (length (live t)) (map (row_of t) (live t)) (length-map (live t) (row_of t)) (λ i h. sym (get_or-map (row_of t) (live t) i 0))

  -- from where its search begins it is found
  pub row_next : (i : ℕ) → i < length (live t) → row_from t (next_of t i) ≡ row_at i
  row_next i h = ap (row_of t) (next-first t i h)
