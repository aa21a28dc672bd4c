-- Laws of hexadecimal digits. Assumes nothing.
use Prim.Native.Nat.{ℕ, ◌+◌, ◌*◌, ◌^◌, ◌≤◌, ◌<◌}
use native.Mathlib.Numerals.{add-one}
use native.Mathlib.Omega.{arith}
use native.Mathlib.Nat.{pow-suc, pow-le-pow_right}
use mathlib.Core.Path.{◌≡◌}
use mathlib.Core.List.{List, [], ◌∷◌}
use lib.Dec.{leb, ltb}
use lib.ListN.{length, drop, get_or, drop_of_length-le}
use lib.Seq.{drop-cons}
use borrow.Author.Tests.{leb-true, ltb-true}
use Rattle.std.specs.Prelude.{if◌then◌else◌, Option, Some, None, IfSome, SomeIff, option_and_then}
use Rattle.std.specs.Char.{digit_value}
use Rattle.std.proofs.lemmas.Bool.Decides.{nat_tests}
use Rattle.lists.proofs.Bools.{split, below?}
use Rattle.lines.specs.Hex.{digit_of, read_on, field_of}

-- the library reads a digit as the definition does
digit_same : (c : ℕ) → digit_of c ≡ (if ltb (digit_value c) 16 then Some (digit_value c) else None)
unfolding digit_of
digit_same c =
    below? c 65 (λ h. grind (arith, nat_tests)) (λ h. grind (arith, nat_tests))

digit_read : (c : ℕ) (d : Option ℕ) → SomeIff d (digit_value c < 16) (digit_value c) → d ≡ digit_of c
digit_read c None h = rw digit_same (grind (arith, nat_tests))
digit_read c (Some d) h = rw digit_same (grind (arith, nat_tests))

digit_small : (c : ℕ) → IfSome (digit_of c) (λ d. d < 16)
digit_small c = rw digit_same (split (ltb (digit_value c) 16) (λ e. rw e (ltb-true _ _ e)) (λ e. rw e tt))

-- one digit more
pub digit-more : (n d i : ℕ) → n < 16 ^ i → d < 16 → n * 16 + d < 16 ^ (i + 1)
digit-more n d i h k = rw (add-one, pow-suc) (omega arith)

-- the digit d at i, or none, as the library reads it
pub read-next : (n : ℕ) (cs : List ℕ) (i : ℕ) (d : Option ℕ) → i < length cs → SomeIff d (digit_value (get_or cs i 0) < 16) (digit_value (get_or cs i 0)) →
    option_and_then (λ x. read_on (n * 16 + x) (drop (i + 1) cs)) d ≡ read_on n (drop i cs)
unfolding read_on
read-next n cs i d h k = rw (add-one, drop-cons cs i 0 h, digit_read (get_or cs i 0) d k)

-- and the end
pub read-end : (n : ℕ) (cs : List ℕ) (i : ℕ) → length cs ≤ i → read_on n (drop i cs) ≡ Some n
unfolding read_on
read-end n cs i h = rw (drop_of_length-le cs h)

-- a number below 16 ^ i, and what is read on behind it
below_more : (n i k : ℕ) (cs : List ℕ) → n < 16 ^ i → i + length cs ≤ k → IfSome (read_on n cs) (λ v. v < 16 ^ k)
unfolding read_on
below_more n i k [] h l = let top : 16 ^ i ≤ 16 ^ k = pow-le-pow_right (omega arith) (omega arith) in omega arith
below_more n i k (c ∷ cs) h l =
    elim (digit_of c) as (λ o. IfSome o (λ d. d < 16) → IfSome (option_and_then (λ d. read_on (n * 16 + d) cs) o) (λ v. v < 16 ^ k)) [
      | None ↦ λ small. tt
      | Some d ↦ λ small. below_more (n * 16 + d) (i + 1) k cs (digit-more n d i h small) (omega arith)
    ] (digit_small c)

-- a field of at most k digits is below 16 ^ k
pub field-below : (k : ℕ) (cs : List ℕ) → (length cs ≤ 8 → length cs ≤ k) → IfSome (field_of cs) (λ v. v < 16 ^ k)
unfolding field_of
field-below k cs h = split (leb (length cs) 8) (λ e. let within = h (leb-true (length cs) 8 e) in rw e (below_more 0 0 k cs (omega arith) (omega arith))) (λ e. rw e tt)
