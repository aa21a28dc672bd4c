-- Hexadecimal digits: as they are read, of either case, and as they are written, in lower case.
use Rattle.std.specs.Prelude.{if◌then◌else◌, ℕ, zero, suc, ◌+◌, ◌-◌, ◌*◌, ◌/◌, ◌%◌, Bool, ◌&&◌, List, [], ◌∷◌, ◌++◌, Option, Some, None, option_and_then, leb, ltb, length}

abbrev pub between : ℕ → ℕ → ℕ → Bool
between low high c = leb low c && leb c high

-- what a character stands for, if it is a digit
unfoldable pub digit_of : ℕ → Option ℕ
digit_of c =
    if between 48 57 c then Some (c - 48)
    else if between 65 70 c then Some (c - 55)
    else if between 97 102 c then Some (c - 87)
    else None

-- the digits cs read on behind the number n, the high digit first
unfoldable pub read_on : ℕ → List ℕ → Option ℕ
read_on n [] = Some n
read_on n (c ∷ cs) = option_and_then (λ d. read_on (n * 16 + d) cs) (digit_of c)

-- a field of at most eight characters, each a digit
unfoldable pub field_of : List ℕ → Option ℕ
field_of cs = if leb (length cs) 8 then read_on 0 cs else None

abbrev pub letter_of : ℕ → ℕ
letter_of d = if ltb d 10 then d + 48 else d + 87

-- the n low digits of a number, the high one first
unfoldable pub written : ℕ → ℕ → List ℕ
written zero a = []
written (suc n) a = written n (a / 16) ++ letter_of (a % 16) ∷ []
