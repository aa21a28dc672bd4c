-- How a semaphore is seen.
use Rattle.std.specs.Prelude.{ℕ, Bool, true, false, List, [], ℤ, pos}
use Rattle.tables.specs.declared.Tables.{Tables}
use Rattle.tables.specs.Readers.{is_used, count_of, queue}

pub record Seen : Type 0 where
  pub used : Bool
  pub count : ℤ
  pub waiters : List ℕ

abbrev pub seen : Tables → ℕ → Seen
seen t s = record { used = is_used t s; count = count_of t s; waiters = queue t s }

abbrev pub in_use : ℤ → List ℕ → Seen
in_use c q = record { used = true; count = c; waiters = q }

abbrev pub not_in_use : Seen
not_in_use = record { used = false; count = pos 0; waiters = [] }
