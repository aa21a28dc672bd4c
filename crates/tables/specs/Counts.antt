-- What a count's type holds.
use Rattle.std.specs.Prelude.{ℕ}
use Rattle.std.specs.Int.{w32}
use Rattle.std.proofs.Common.{SFits}
use Rattle.tables.specs.declared.Tables.{Tables}
use Rattle.tables.specs.Readers.{count_of}

-- every count is a signed number of 32 bits
abbrev pub CountsFit : Tables → Type 0
CountsFit t = (s : ℕ) → SFits w32 (count_of t s)
