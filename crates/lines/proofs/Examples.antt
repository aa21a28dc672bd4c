-- Lines and answers of the paper, and both sides of their edges, computed. Assumes nothing.
use Prim.Native.Nat.{ℕ}
use mathlib.Core.Path.{◌≡◌, refl}
use mathlib.Core.List.{List, [], ◌∷◌, ◌++◌}
use lib.IntN.{pos, negsuc}
use lib.ListN.{replicate}
use Rattle.std.specs.Prelude.{Some, None}
use Rattle.lines.specs.Hex.{digit_of, read_on, field_of, written}
use Rattle.lines.specs.Line.{line_of}
use Rattle.lines.specs.Answers.{text_of}

zeros : ℕ → List ℕ
zeros n = replicate n 48

-- 060000001400000000
make-process : line_of (48 ∷ 54 ∷ zeros 6 ++ 49 ∷ 52 ∷ zeros 8) ≡ Some (record { number = 6; a = pos 20; b = pos 0 })
unfolding line_of field_of read_on digit_of zeros
make-process = refl

-- 05, ffffffff, 80000000: two's complement
negative : line_of (48 ∷ 53 ∷ replicate 8 102 ++ 56 ∷ zeros 7) ≡ Some (record { number = 5; a = negsuc 0; b = negsuc 2147483647 })
unfolding line_of field_of read_on digit_of zeros
negative = refl

-- 0B, 7FFFFFFF in upper case
upper-case : line_of (48 ∷ 66 ∷ 55 ∷ replicate 7 70 ++ zeros 8) ≡ Some (record { number = 11; a = pos 2147483647; b = pos 0 })
unfolding line_of field_of read_on digit_of zeros
upper-case = refl

empty-line : line_of [] ≡ None
unfolding line_of
empty-line = refl

seventeen-digits : line_of (zeros 17) ≡ None
unfolding line_of zeros
seventeen-digits = refl

nineteen-digits : line_of (zeros 19) ≡ None
unfolding line_of zeros
nineteen-digits = refl

-- the characters beside the digits
beside : (digit_of 47 ≡ None) × (digit_of 58 ≡ None) × (digit_of 64 ≡ None) × (digit_of 71 ≡ None) × (digit_of 96 ≡ None) × (digit_of 103 ≡ None)
unfolding digit_of
beside = (refl, refl, refl, refl, refl, refl)

carriage-return : line_of (zeros 17 ++ 13 ∷ []) ≡ None
unfolding line_of field_of read_on digit_of zeros
carriage-return = refl

-- 00ffffffff01
count-below-zero : text_of 0xffffffff01 ≡ zeros 2 ++ replicate 8 102 ++ 48 ∷ 49 ∷ 10 ∷ []
unfolding text_of written zeros
count-below-zero = refl

-- 0a is 10, in lower case
refused-ten : text_of 0x0affffffff1f ≡ 48 ∷ 97 ∷ replicate 8 102 ++ 49 ∷ 102 ∷ 10 ∷ []
unfolding text_of written
refused-ten = refl
