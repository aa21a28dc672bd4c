-- The status page: one row for each live process, in rising number.
use Rattle.std.specs.Prelude.{ℕ, List, map}
use Rattle.std.proofs.Math.Option.{Option, none, some}
use Rattle.tables.specs.declared.State.{State}
use Rattle.tables.specs.declared.State.TheVariants.{Free, Current, Ready, Suspended, Waiting}
use Rattle.tables.specs.declared.Tables.{Tables}
use Rattle.tables.specs.States.{awaits}
use Rattle.tables.specs.Readers.{live, place_of, priority_of, state_of}
use Rattle.status.specs.declared.Row.{Row}

-- the number that the page has for a state; a free slot has no row
abbrev pub state_number : State → ℕ
state_number Free = 0
state_number Current = 1
state_number Ready = 2
state_number Suspended = 3
state_number (Waiting s) = 4

-- for a waiter what it waits for, and its place in that queue counted from 1; 0 and 0 for the others
abbrev pub awaited_shown : Option ℕ → ℕ
awaited_shown none = 0
awaited_shown (some s) = s

abbrev pub place_shown : Tables → ℕ → Option ℕ → ℕ
place_shown t p none = 0
place_shown t p (some s) = place_of t p s

abbrev pub row_of : Tables → ℕ → Row
row_of t p =
    record {
      number = p;
      state = state_number (state_of t p);
      priority = priority_of t p;
      awaited = awaited_shown (awaits (state_of t p));
      place = place_shown t p (awaits (state_of t p));
    }

unfoldable pub rows : Tables → List Row
rows t = map (row_of t) (live t)
