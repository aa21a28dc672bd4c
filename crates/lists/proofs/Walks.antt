-- What is left of a walk along a list, turn by turn. Assumes nothing.
use Prim.Native.Nat.{◌+◌, ◌<◌, ◌≤◌, ℕ}
use native.Mathlib.Numerals.{add-one}
use native.Mathlib.Omega.{arith}
use mathlib.Core.Bool.{Bool, ◌||◌, false, true, or-false, or-true}
use mathlib.Core.List.{List, [], ◌∷◌}
use mathlib.Core.Path.{◌∙◌, ◌≡◌, refl, sym}
use lib.Dec.{eqb, ltb}
use lib.ListN.{drop, drop_of_length-le, get_or, length, take}
use lib.Seq.{drop-cons, take-suc}
use borrow.Author.Tests.{eq-eqb, le-leb, lt-leb, lt-ltb, ne_eqb}
use Rattle.lists.specs.Lists.{falls, filter, times}
use Rattle.lists.proofs.Bools.{either}
use Rattle.lists.proofs.ListLaws.{times-append}

module _ (f : ℕ → Bool) (xs : List ℕ) (i : ℕ) (hi : i < length xs) where
  pub filter-in : f (get_or xs i 0) ≡ true → filter f (drop i xs) ≡ get_or xs i 0 ∷ filter f (drop (i + 1) xs)
  unfolding filter
  filter-in h = rw (add-one, drop-cons xs i 0 hi, h)

  pub filter-over : f (get_or xs i 0) ≡ false → filter f (drop i xs) ≡ filter f (drop (i + 1) xs)
  unfolding filter
  filter-over h = rw (add-one, drop-cons xs i 0 hi, h)

pub filter-done : (f : ℕ → Bool) (xs : List ℕ) (i : ℕ) → length xs ≤ i → filter f (drop i xs) ≡ []
unfolding filter
filter-done f xs i h = rw (drop_of_length-le xs {i = i} h)

module _ (rank : ℕ → ℕ) (n : ℕ) where
  pub falls-none : falls rank n [] ≡ true
  unfolding falls
  falls-none = refl

  pub falls-on : (x : ℕ) (xs : List ℕ) → rank x ≤ n → falls rank n (x ∷ xs) ≡ falls rank (rank x) xs
  unfolding falls
  falls-on x xs h = rw (le-leb (rank x) n h)

  pub falls-stop : (x : ℕ) (xs : List ℕ) → n < rank x → falls rank n (x ∷ xs) ≡ false
  unfolding falls
  falls-stop x xs h = rw (lt-leb (rank x) n h)

-- a number that stands among the first i + 1
pub among_next : (xs : List ℕ) (i p : ℕ) → i < length xs → (ltb 0 (times p (take i xs)) || eqb p (get_or xs i 0)) ≡ ltb 0 (times p (take (i + 1) xs))
unfolding times
among_next xs i p h =
    let x : ℕ = get_or xs i 0 in
    let m : ℕ = times p (take i xs) in
    let e : times p (take (i + 1) xs) ≡ m + times p (x ∷ []) = rw (add-one, take-suc xs i 0 h) (times-append p (take i xs) (x ∷ [])) in
    either p x
    (λ q. let k : times p (x ∷ []) ≡ 1 = rw (eq-eqb x p (sym q)) in rw (eq-eqb p x q) (or-true (ltb 0 m) ∙ sym (lt-ltb 0 (times p (take (i + 1) xs)) (omega arith))))
    (λ q. let k : times p (x ∷ []) ≡ 0 = rw (ne_eqb x p (λ z. q (sym z))) in let s : times p (take (i + 1) xs) ≡ m = omega arith in rw (ne_eqb p x q, s) (or-false (ltb 0 m)))

pub among_none : (p : ℕ) → ltb 0 (times p []) ≡ false
unfolding times
among_none p = refl
