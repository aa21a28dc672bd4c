-- What the check answers of any bytes.
use Rattle.std.specs.Prelude.{if◌then◌else◌, Bool, ◌&&◌, List, ℕ, Option, Some, None}
use Rattle.tables.specs.Readers.{current_of, nobody}
use Rattle.tables.specs.Test.{sound_now}
use Rattle.layout.specs.Bytes.{from_bytes, well_formed}

-- the length is right, the bytes are well formed, and the tables that they stand for pass the test of soundness
unfoldable pub good : List ℕ → Bool
good bs = well_formed bs && sound_now (from_bytes bs)

-- who runs, of good bytes
unfoldable pub runner_of_bytes : List ℕ → Option ℕ
runner_of_bytes bs = if good bs then Some (current_of (from_bytes bs)) else None

-- the same as a byte
unfoldable pub current_byte : List ℕ → ℕ
current_byte bs = if good bs then current_of (from_bytes bs) else nobody
