-- The live processes as the code looks for them.
use Rattle.std.specs.Prelude.{ℕ, ◌-◌, List}
use Rattle.lists.specs.Lists.{filter, first}
use Rattle.lists.specs.Numbers.{count_up}
use Rattle.tables.specs.declared.Tables.{Tables}
use Rattle.tables.specs.Limits.{process_limit}
use Rattle.tables.specs.Readers.{is_live}
use Rattle.status.specs.declared.Row.{Row}
use Rattle.status.specs.Rows.{row_of}

-- those from number p on
abbrev pub live_from : Tables → ℕ → List ℕ
live_from t p = filter (is_live t) (count_up p (process_limit - p))

-- the row of the first of them; that of process 0 where there is none
abbrev pub row_from : Tables → ℕ → Row
row_from t p = row_of t (first (live_from t p))
