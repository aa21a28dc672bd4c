-- A bench line: eighteen hexadecimal digits, two for the call and eight for each argument, in two's complement.
use Rattle.std.specs.Prelude.{if◌then◌else◌, ℕ, Bool, true, ◌&&◌, List, [], ◌∷◌, Option, Some, None, is_some, eqb, length, take, drop}
use Rattle.std.specs.Int.{w32}
use Rattle.std.proofs.Common.{to_z}
use Rattle.lines.specs.declared.line.Request.{Request}
use Rattle.lines.specs.Hex.{digit_of, field_of}

abbrev pub line_length : ℕ
line_length = 18

-- a request where each field is right
abbrev pub request_of : Option ℕ → Option ℕ → Option ℕ → Option Request
request_of None a b = None
request_of (Some n) None b = None
request_of (Some n) (Some a) None = None
request_of (Some n) (Some a) (Some b) = Some (record { number = n; a = to_z w32 a; b = to_z w32 b })

unfoldable pub line_of : List ℕ → Option Request
line_of cs =
    if eqb (length cs) line_length then request_of (field_of (take 2 cs)) (field_of (take 8 (drop 2 cs))) (field_of (take 8 (drop 10 cs)))
    else None

-- the paper's words for a line that is not refused with 12: eighteen hexadecimal digits
unfoldable pub all_digits : List ℕ → Bool
all_digits [] = true
all_digits (c ∷ cs) = is_some (digit_of c) && all_digits cs
