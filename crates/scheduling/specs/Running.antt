-- Who runs, while a call is under way.
use Rattle.std.specs.Prelude.{if◌then◌else◌, ◌<◌, ℕ, List, [], ◌∷◌, ◌≡◌}
use Rattle.layout.specs.Stands.{Stands}
use Rattle.rules.specs.Schedule.{reschedule}
use Rattle.tables.specs.Limits.{process_limit}
use Rattle.tables.specs.Readers.{current_of, currents, state_of}
use Rattle.tables.specs.Sound.{Sound}
use Rattle.tables.specs.States.{is_current}
use Rattle.tables.specs.declared.Tables.{Tables}

-- nobody but c is current, if anybody still is
pub record Only (c : ℕ) (t : Tables) : Type 0 where
  pub below : c < process_limit
  pub alone : currents t ≡ (if is_current (state_of t c) then c ∷ [] else [])

-- bytes that are t become the rescheduled tables, and r runs in them
unfoldable pub Reschedules : ℕ → List ℕ → List ℕ → ℕ → Type 0
Reschedules c before after r = (t : Tables) → Stands t before → Only c t → Stands (reschedule t) after × (Sound (reschedule t) → r ≡ current_of (reschedule t))
