-- A row in which every number below n stands once: a sum along it is the sum over the numbers. Assumes nothing.
use Rattle.std.specs.Prelude.{if◌then◌else◌}
use Prim.Native.Nat.{ℕ, zero, suc, ◌+◌, ◌≤◌, ◌<◌, ◌*◌}
use native.Mathlib.Nat.{suc-mul, mul-zero, mul-one, mul-add}
use native.Mathlib.Numerals.{add-one}
use native.Mathlib.Omega.{arith}
use mathlib.Core.Bool.{Bool, false, true}
use mathlib.Core.List.{List, [], ◌∷◌}
use mathlib.Core.Path.{◌≡◌, refl, sym, ap, ◌∙◌}
use lib.Dec.{eqb, ltb}
use lib.ListN.{length, get_or}
use borrow.Author.Tests.{eq-eqb, ne_eqb, lt-ltb, le-ltb, eqb-true}
use Rattle.lists.specs.Lists.{filter, times, sum, first_or, first}
use Rattle.lists.specs.Numbers.{count_up, total}
use Rattle.lists.proofs.Bools.{split, either, below?}
use Rattle.lists.proofs.ListLaws.{times-cons}
use Rattle.lists.proofs.NumberLaws.{listed_at, listed-length}

-- Sums over the numbers below n

pub total-none : (w : ℕ → ℕ) → total 0 w ≡ 0
unfolding total
total-none w = refl

-- a turn of a loop that adds
pub total-next : (w : ℕ → ℕ) (n : ℕ) → total (n + 1) w ≡ total n w + w n
unfolding total
total-next w n = rw add-one

pub total_ext : (n : ℕ) (v w : ℕ → ℕ) → ((p : ℕ) → p < n → v p ≡ w p) → total n v ≡ total n w
unfolding total
total_ext zero v w h = refl
total_ext (suc n) v w h = rw (total_ext n v w (λ p k. h p (omega arith)), h n (omega arith))

pub total-add : (n : ℕ) (v w : ℕ → ℕ) → total n (λ p. v p + w p) ≡ total n v + total n w
unfolding total
total-add zero v w = refl
total-add (suc n) v w = let e = total-add n v w in omega arith

pub total-zero : (n : ℕ) (w : ℕ → ℕ) → ((p : ℕ) → p < n → w p ≡ 0) → total n w ≡ 0
unfolding total
total-zero zero w h = refl
total-zero (suc n) w h = let e = total-zero n w (λ p k. h p (omega arith)) in let k = h n (omega arith) in omega arith

-- nothing but at x
pub total-one : (n : ℕ) (w : ℕ → ℕ) (x : ℕ) → x < n → ((p : ℕ) → (p ≡ x → ⊥) → w p ≡ 0) → total n w ≡ w x
unfolding total
total-one zero w x h k = absurd (omega arith)
total-one (suc n) w x h k =
    let on = total-one n w x in
    either n x (λ e. let z = total-zero n w (λ p l. k p (omega arith)) in rw (z, e) (omega arith)) (λ d. let i = on (omega arith) k in let j = k n d in omega arith)

pub total_at_most : (n : ℕ) (w : ℕ → ℕ) (m : ℕ) → ((p : ℕ) → p < n → w p ≤ m) → total n w ≤ n * m
unfolding total
total_at_most zero w m h = omega arith
total_at_most (suc n) w m h =
    let e = total_at_most n w m (λ p k. h p (omega arith)) in
    let k = h n (omega arith) in
    let d : suc n * m ≡ n * m + m = suc-mul n m in
    omega arith

-- a sum in two parts
pub total-join : (w : ℕ → ℕ) (n m : ℕ) → total n w + total m (λ p. w (n + p)) ≡ total (n + m) w
unfolding total
total-join w n zero = let e : n + 0 ≡ n = omega arith in rw e (omega arith)
total-join w n (suc m) = let ih = total-join w n m in let e : n + suc m ≡ suc (n + m) = omega arith in rw e (omega arith)

-- what a sum of those that pass is at most
pub sum-small : (f : ℕ → Bool) (w : ℕ → ℕ) (i m : ℕ) → ((p : ℕ) → p < i → w p ≤ m) → total i (λ p. if f p then w p else 0) ≤ i * m
sum-small f w i m h = total_at_most i (λ p. if f p then w p else 0) m (λ p k. one (f p) (w p) (h p k))
  where
    one : (b : Bool) (v : ℕ) → v ≤ m → (if b then v else 0) ≤ m
    one true v k = k
    one false v k = omega arith

-- a turn of a loop that sums
module _ (f : ℕ → Bool) (w : ℕ → ℕ) (i n : ℕ) (e : n ≡ total i (λ p. if f p then w p else 0)) where
  pub sum-yes : f i ≡ true → n + w i ≡ total (i + 1) (λ p. if f p then w p else 0)
  sum-yes h = ap (λ (k : ℕ). k + w i) e ∙ sym (total-next (λ p. if f p then w p else 0) i ∙ ap (λ (b : Bool). total i (λ p. if f p then w p else 0) + (if b then w i else 0)) h)

  pub sum-no : f i ≡ false → n ≡ total (i + 1) (λ p. if f p then w p else 0)
  sum-no h = e ∙ sym (total-next (λ p. if f p then w p else 0) i ∙ ap (λ (b : Bool). total i (λ p. if f p then w p else 0) + (if b then w i else 0)) h ∙ omega arith)

pub total-at-least : (n : ℕ) (w : ℕ → ℕ) → ((p : ℕ) → p < n → 1 ≤ w p) → n ≤ total n w
unfolding total
total-at-least zero w h = omega arith
total-at-least (suc n) w h = let e = total-at-least n w (λ p k. h p (omega arith)) in let k = h n (omega arith) in omega arith

-- n numbers of at least 1 with the sum n are 1 each
ones : (n : ℕ) (w : ℕ → ℕ) → ((p : ℕ) → p < n → 1 ≤ w p) → total n w ≡ n → (p : ℕ) → p < n → w p ≡ 1
unfolding total
ones zero w h e p k = absurd (omega arith)
ones (suc n) w h e p k =
    let l = h n (omega arith) in
    let g = total-at-least n w (λ p k. h p (omega arith)) in
    let on = ones n w (λ p k. h p (omega arith)) (omega arith) p in
    either p n (λ q. rw q (omega arith)) (λ q. on (omega arith))

-- Along a list

-- every entry is below n
abbrev pub Within : ℕ → List ℕ → Type 0
Within n [] = Unit
Within n (x ∷ xs) = (x < n) × Within n xs

pub within : (n : ℕ) (xs : List ℕ) → ((i : ℕ) → i < length xs → get_or xs i 0 < n) → Within n xs
within n [] h = tt
within n (x ∷ xs) h = (h 0 (omega arith), within n xs (λ i k. h (suc i) (omega arith)))

pub within-member : (n : ℕ) (xs : List ℕ) (p : ℕ) → Within n xs → 1 ≤ times p xs → p < n
unfolding times
within-member n [] p h k = absurd (omega arith)
within-member n (x ∷ xs) p (h, hs) k =
    split (eqb x p) (λ e. rw (eqb-true x p e) at h) (λ e. within-member n xs p hs (rw e at k))

-- what stands in a list stands in it at least once
pub times-at : (xs : List ℕ) (i : ℕ) → i < length xs → 1 ≤ times (get_or xs i 0) xs
unfolding times
times-at [] i h = absurd (omega arith)
times-at (x ∷ xs) zero h = rw (eq-eqb x x refl) (omega arith)
times-at (x ∷ xs) (suc i) h = let k = times-at xs i (omega arith) in split (eqb x (get_or xs i 0)) (λ e. rw e (omega arith)) (λ e. rw e k)

times-nil : (p : ℕ) → times p [] ≡ 0
unfolding times
times-nil p = refl

module _ (w : ℕ → ℕ) (n : ℕ) where
  -- what each number weighs, as often as it stands
  weighed : (xs : List ℕ) → Within n xs → total n (λ p. w p * times p xs) ≡ sum w xs
  unfolding sum
  weighed [] h = total-zero n (λ p. w p * times p []) (λ p k. rw (times-nil p) (mul-zero (w p)))
  weighed (x ∷ xs) (h, hs) =
      let at : w x * (if eqb x x then 1 else 0) ≡ w x = rw (eq-eqb x x refl) (mul-one (w x)) in
      let one : total n (λ p. w p * (if eqb x p then 1 else 0)) ≡ w x = total-one n (λ p. w p * (if eqb x p then 1 else 0)) x h (λ p d. rw (ne_eqb x p (λ e. d (sym e))) (mul-zero (w p))) ∙ at in
      total_ext n (λ p. w p * times p (x ∷ xs)) (λ p. w p * (if eqb x p then 1 else 0) + w p * times p xs) (λ p k. ap (λ (m : ℕ). w p * m) (times-cons p x xs) ∙ mul-add (w p) ((if eqb x p then 1 else 0)) (times p xs))
      ∙ total-add n (λ p. w p * (if eqb x p then 1 else 0)) (λ p. w p * times p xs)
      ∙ ap (λ (k : ℕ). k + total n (λ p. w p * times p xs)) one
      ∙ ap (λ (k : ℕ). w x + k) (weighed xs hs)

sum_ones : (xs : List ℕ) → sum (λ x. 1) xs ≡ length xs
unfolding sum
sum_ones [] = refl
sum_ones (x ∷ xs) = let e = sum_ones xs in omega arith

-- what passes a test

filter-weighs : (w : ℕ → ℕ) (f : ℕ → Bool) (xs : List ℕ) → sum w (filter f xs) ≡ sum (λ x. if f x then w x else 0) xs
unfolding filter sum
filter-weighs w f [] = refl
filter-weighs w f (x ∷ xs) = let ih = filter-weighs w f xs in split (f x) (λ e. rw e (omega arith)) (λ e. rw e (omega arith))

one-first : (xs : List ℕ) → length xs ≡ 1 → first xs ≡ sum (λ x. x) xs
unfolding first_or sum
one-first [] h = absurd (omega arith)
one-first (x ∷ []) h = omega arith
one-first (x ∷ (y ∷ ys)) h = absurd (omega arith)

-- The row

-- every number below n stands in it exactly once, and nothing else does
pub record Row (n : ℕ) (xs : List ℕ) : Type 0 where
  pub inside : Within n xs
  pub once : (p : ℕ) → p < n → times p xs ≡ 1

module _ {n : ℕ} {xs : List ℕ} (r : Row n xs) where
  -- a sum along the row is the sum over the numbers
  pub row-sum : (w : ℕ → ℕ) → sum w xs ≡ total n w
  row-sum w = sym (weighed w n xs r.inside) ∙ total_ext n (λ p. w p * times p xs) w (λ p k. ap (λ (m : ℕ). w p * m) (r.once p k) ∙ mul-one (w p))

  pub row-many : (f : ℕ → Bool) → length (filter f xs) ≡ total n (λ p. if f p then 1 else 0)
  row-many f = sym (sum_ones (filter f xs)) ∙ filter-weighs (λ p. 1) f xs ∙ row-sum (λ p. if f p then 1 else 0)

  pub row_first : (f : ℕ → Bool) → length (filter f xs) ≡ 1 → first (filter f xs) ≡ total n (λ p. if f p then p else 0)
  row_first f one = one-first (filter f xs) one ∙ filter-weighs (λ p. p) f xs ∙ row-sum (λ p. if f p then p else 0)

  pub row-times : (p : ℕ) → times p xs ≡ (if ltb p n then 1 else 0)
  row-times p =
      below? p n (λ h. rw (lt-ltb p n h) (r.once p h))
      (λ h. rw (le-ltb p n h) (below? 0 (times p xs) (λ k. let l = within-member n xs p r.inside k in absurd (omega arith)) (λ k. omega arith)))

-- n entries below n, each number there at least once: each is there exactly once
pub row-all : (n : ℕ) (xs : List ℕ) → length xs ≡ n → Within n xs → ((p : ℕ) → p < n → 1 ≤ times p xs) → Row n xs
row-all n xs l h k =
    let sums : total n (λ p. 1 * times p xs) ≡ length xs = weighed (λ p. 1) n xs h ∙ sum_ones xs in
    let plain : total n (λ p. times p xs) ≡ n = total_ext n (λ p. times p xs) (λ p. 1 * times p xs) (λ p k. omega arith) ∙ sums ∙ l in
    record { inside = h; once = ones n (λ p. times p xs) k plain }

-- the numbers below n, counted up
pub row-count_up : (n : ℕ) → Row n (count_up 0 n)
row-count_up n =
    let long : length (count_up 0 n) ≡ n = listed-length (λ i. i) 0 n in
    row-all n (count_up 0 n) long
    (within n (count_up 0 n) (λ i k. let h : i < n = omega arith in rw (listed_at (λ j. j) n i 0 h) h))
    (λ p k. let h : p < length (count_up 0 n) = omega arith in rw (listed_at (λ j. j) n p 0 k) at (times-at (count_up 0 n) p h))
