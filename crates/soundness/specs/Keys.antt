-- What the ready list is compared by.
use Rattle.std.specs.Prelude.{if◌then◌else◌, ℕ, ◌+◌, List, eqb, get_or}
use Rattle.tables.specs.declared.State.TheVariants.{Ready}
use Rattle.layout.specs.Bytes.{state_byte}
use Rattle.layout.specs.Offsets.{priorities_at, states_at}

-- a ready process as its priority and one, any other as 0
abbrev pub key_from : ℕ → ℕ → ℕ
key_from state priority = if eqb state (state_byte Ready) then priority + 1 else 0

-- that of process p in the bytes
abbrev pub key_of : List ℕ → ℕ → ℕ
key_of bs p = key_from (get_or bs (states_at + p) 0) (get_or bs (priorities_at + p) 0)

-- the last key that was not 0
abbrev pub latest_of : ℕ → ℕ → ℕ
latest_of last key = if eqb key 0 then last else key
