-- Laws of an answer's text. Assumes nothing.
use Prim.Native.Nat.{ℕ, zero, suc, ◌-◌, ◌/◌, ◌%◌, ◌≤◌, ◌<◌}
use native.Mathlib.Numerals.{sub-one}
use native.Mathlib.Omega.{arith}
use mathlib.Core.Path.{◌≡◌, refl}
use mathlib.Core.List.{List, ◌∷◌, ◌++◌}
use lib.ListN.{length, drop, set, length-append, length-set}
use lib.Seq.{drop-cons, drop-set-lt, get_or-set_same, append_snoc}
use Rattle.std.specs.Char.{digit_char}
use Rattle.std.proofs.lemmas.Bool.Decides.{nat_tests}
use Rattle.lines.specs.Hex.{letter_of, written}
use Rattle.lines.specs.Answers.{answer_length, text_of, over}

pub written-length : (n a : ℕ) → length (written n a) ≡ n
unfolding written
written-length zero a = refl
written-length (suc n) a = simp length-append (rw (written-length n (a / 16)) (omega arith))

pub text-length : (a : ℕ) → length (text_of a) ≡ answer_length
unfolding text_of
text-length a = simp length-append (rw (written-length 12 a))

-- the library writes a digit as the definition does
pub letter_same : (d : ℕ) → digit_char d ≡ letter_of d
letter_same d = grind (arith, nat_tests)

-- v stored at i, and what stands from there on
drop-stored : (out : List ℕ) (i v : ℕ) → i < length out → drop i (set out i v) ≡ v ∷ drop (suc i) out
drop-stored out i v h =
    rw (drop-cons (set out i v) i 0 (simp length-set h), get_or-set_same out i v 0 h, drop-set-lt (suc i) out i v (omega arith))

-- the lowest of i digits stored before those behind it
pub digit-stored : (i a : ℕ) (out : List ℕ) → 0 < i → i ≤ length out → written (i - 1) (a / 16) ++ drop (i - 1) (set out (i - 1) (letter_of (a % 16))) ≡ written i a ++ drop i out
unfolding written
digit-stored zero a out h k = absurd (omega arith)
digit-stored (suc i) a out h k = rw (sub-one (suc i), drop-stored out i (letter_of (a % 16)) k, append_snoc)

-- a text over the front of a buffer takes the place of thirteen characters
pub text-over : (a : ℕ) (out : List ℕ) → over (text_of a) out ≡ text_of a ++ drop answer_length out
unfolding over
text-over a out = rw text-length
