-- A line is a call exactly when it is eighteen hexadecimal digits. Assumes nothing.
use Prim.Native.Nat.{ℕ, ◌+◌, ◌*◌, ◌≤◌}
use native.Mathlib.Omega.{arith}
use mathlib.Core.Path.{◌≡◌, refl}
use mathlib.Core.Bool.{◌&&◌}
use mathlib.Core.List.{List, [], ◌∷◌, ◌++◌}
use lib.Dec.{eqb}
use lib.ListN.{length, take, drop, length-take, length-drop, take-append-drop}
use lib.Seq.{take_all, drop-drop}
use borrow.Author.Tests.{eq-eqb, eqb-true, le-leb}
use Rattle.std.specs.Prelude.{Option, Some, None, is_some, option_and_then}
use Rattle.std.specs.Array.{IsWholeChunk}
use Rattle.lists.proofs.Bools.{split}
use Rattle.lines.specs.Hex.{digit_of, read_on, field_of}
use Rattle.lines.specs.Line.{request_of, line_of, line_length, all_digits}

digits_append : (a b : List ℕ) → all_digits (a ++ b) ≡ (all_digits a && all_digits b)
unfolding all_digits
digits_append [] b = refl
digits_append (c ∷ cs) b = let ih = digits_append cs b in split (is_some (digit_of c)) (λ e. rw (e, ih)) (λ e. rw e)

read_right : (n : ℕ) (cs : List ℕ) → is_some (read_on n cs) ≡ all_digits cs
unfolding read_on all_digits
read_right n [] = refl
read_right n (c ∷ cs) = elim (digit_of c) as (λ d. is_some (option_and_then (λ d. read_on (n * 16 + d) cs) d) ≡ (is_some d && all_digits cs)) [ None ↦ refl | Some d ↦ read_right (n * 16 + d) cs ]

field-right : (cs : List ℕ) → length cs ≤ 8 → is_some (field_of cs) ≡ all_digits cs
unfolding field_of
field-right cs h = rw (le-leb (length cs) 8 h) (read_right 0 cs)

request-right : (call a b : Option ℕ) → is_some (request_of call a b) ≡ (is_some call && (is_some a && is_some b))
request-right None a b = refl
request-right (Some n) None b = refl
request-right (Some n) (Some x) None = refl
request-right (Some n) (Some x) (Some y) = refl

-- a line as an array is read in three parts
pub line-read : (cs digits : List ℕ) → IsWholeChunk cs digits 18 →
    line_of cs ≡ request_of (field_of (take 2 digits)) (field_of (take 8 (drop 2 digits))) (field_of (take 8 (drop 10 digits)))
unfolding line_of
line-read cs digits whole = rw (eq-eqb (length cs) 18 whole.long, whole.same)

three-parts : (cs : List ℕ) → length cs ≡ 18 → take 2 cs ++ (take 8 (drop 2 cs) ++ take 8 (drop 10 cs)) ≡ cs
three-parts cs e =
    rw (take_all 8 (drop 10 cs) (simp length-drop (omega arith)), ← drop-drop 8 2 cs, take-append-drop 8 (drop 2 cs)) (take-append-drop 2 cs)

-- refusal 12 is given exactly when the line is not eighteen hexadecimal digits
pub line-right : (cs : List ℕ) → is_some (line_of cs) ≡ (eqb (length cs) line_length && all_digits cs)
unfolding line_of
line-right cs = split (eqb (length cs) 18) (λ e. rw e (right (eqb-true (length cs) 18 e))) (λ e. rw e)
  where
    short : (n : ℕ) (xs : List ℕ) → n ≤ 8 → length (take n xs) ≤ 8
    short n xs h = simp length-take (omega arith)

    right : length cs ≡ 18 → is_some (request_of (field_of (take 2 cs)) (field_of (take 8 (drop 2 cs))) (field_of (take 8 (drop 10 cs)))) ≡ all_digits cs
    right e =
        let call = take 2 cs in
        let a = take 8 (drop 2 cs) in
        let b = take 8 (drop 10 cs) in
        rw (request-right (field_of call) (field_of a) (field_of b), field-right call (short 2 cs (omega arith)), field-right a (short 8 _ (omega arith)), field-right b (short 8 _ (omega arith)))
        (rw (← digits_append a b, ← digits_append call (a ++ b), three-parts cs e))
