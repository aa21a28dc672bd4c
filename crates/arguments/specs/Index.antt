-- An argument as the number of an entry.
use Rattle.std.specs.Prelude.{if◌then◌else◌, ℕ, ltb, negsuc, Option, Some, None, pos, ℤ}

abbrev pub index_below : ℤ → ℕ → Option ℕ
index_below (pos n) limit = if ltb n limit then Some n else None
index_below (negsuc n) limit = None
