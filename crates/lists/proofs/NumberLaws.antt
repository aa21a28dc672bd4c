-- Laws of what is listed and of what holds of every number below a limit. Assumes nothing.
use Prim.Native.Nat.{◌+◌, ◌<◌, suc, zero, ℕ}
use native.Mathlib.Numerals.{add-one}
use native.Mathlib.Omega.{arith}
use mathlib.Core.Path.{◌∙◌, ◌≡◌, ap, refl, sym}
use mathlib.Core.Bool.{Bool, ◌&&◌, false, true}
use mathlib.Core.List.{List, [], ◌++◌, ◌∷◌}
use lib.ListN.{get_or, length, set, take}
use lib.Seq.{take_all, take-suc, take-suc-set}
use Rattle.lists.specs.Numbers.{all, listed}
use Rattle.lists.proofs.Bools.{and_no, both, either}

-- listed

module _ {A : Type 0} (f : ℕ → A) where
  pub listed-length : (k n : ℕ) → length (listed k n f) ≡ n
  unfolding listed
  listed-length k zero = refl
  listed-length k (suc n) = ap suc (listed-length (suc k) n)

  pub listed-from : (k n i : ℕ) (z : A) → i < n → get_or (listed k n f) i z ≡ f (k + i)
  unfolding listed
  listed-from k zero i z h = absurd (omega arith)
  listed-from k (suc n) zero z h = let e : k + 0 ≡ k = omega arith in rw e
  listed-from k (suc n) (suc i) z h = let e : suc k + i ≡ k + suc i = omega arith in listed-from (suc k) n i z (omega arith) ∙ ap f e

  pub listed_at : (n i : ℕ) (z : A) → i < n → get_or (listed 0 n f) i z ≡ f i
  listed_at n i z h = let e : 0 + i ≡ i = omega arith in listed-from 0 n i z h ∙ ap f e

-- a list is what is listed of it
listed_of : {A : Type 0} (z : A) (f : ℕ → A) (k : ℕ) (xs : List A) → ((i : ℕ) → i < length xs → f (k + i) ≡ get_or xs i z) → listed k (length xs) f ≡ xs
unfolding listed
listed_of z f k [] h = refl
listed_of {A} z f k (x ∷ xs) h =
    let e : k + 0 ≡ k = omega arith in
    ap (λ (y : A). y ∷ listed (suc k) (length xs) f) (ap f (sym e) ∙ h 0 (omega arith))
    ∙ ap (λ (r : List A). x ∷ r) (listed_of z f (suc k) xs (λ i l. let e₁ : suc k + i ≡ k + suc i = omega arith in ap f e₁ ∙ h (suc i) (omega arith)))

pub listed-all : {A : Type 0} (z : A) (f : ℕ → A) (n : ℕ) (xs : List A) → length xs ≡ n → ((i : ℕ) → i < n → f i ≡ get_or xs i z) → listed 0 n f ≡ xs
listed-all {A} z f n xs l h =
    ap (λ (m : ℕ). listed 0 m f) (sym l)
    ∙ listed_of z f 0 xs (λ i k. let e : 0 + i ≡ i = omega arith in ap f e ∙ h i (omega arith))

-- An array filled from the front: what is done is what the goal begins with

module _ {A : Type 0} (m l : List A) where
  pub filled_next : (k : ℕ) (z v : A) → take k l ≡ take k m → k < length l → k < length m → v ≡ get_or m k z → take (k + 1) (set l k v) ≡ take (k + 1) m
  filled_next k z v e hl hm h = rw add-one (take-suc-set l k v hl ∙ ap (λ (r : List A). r ++ (v ∷ [])) e ∙ ap (λ (x : A). take k m ++ (x ∷ [])) h ∙ sym (take-suc m k z hm))

  pub filled-all : (n k : ℕ) → k ≡ n → length l ≡ n → length m ≡ n → take k l ≡ take k m → l ≡ m
  filled-all n k h hl hm e = sym (take_all k l (omega arith)) ∙ e ∙ take_all k m (omega arith)

-- the same where the goal is listed
module _ {A : Type 0} (f : ℕ → A) (n : ℕ) (l : List A) (long : length l ≡ n) where
  pub listed_next : (k : ℕ) (z v : A) → take k l ≡ take k (listed 0 n f) → k < n → v ≡ f k → take (k + 1) (set l k v) ≡ take (k + 1) (listed 0 n f)
  listed_next k z v e h q = let m = listed-length f 0 n in filled_next (listed 0 n f) l k z v e (omega arith) (omega arith) (q ∙ sym (listed_at f n k z h))

  pub listed-done : (k : ℕ) → k ≡ n → take k l ≡ take k (listed 0 n f) → l ≡ listed 0 n f
  listed-done k h e = filled-all (listed 0 n f) l n k h long (listed-length f 0 n) e

-- all

module _ (f : ℕ → Bool) where
  pub all_none : all 0 f ≡ true
  unfolding all
  all_none = refl

  -- a turn of a loop that ands
  pub all-next : (n : ℕ) (ok c : Bool) → ok ≡ all n f → c ≡ f n → (ok && c) ≡ all (n + 1) f
  unfolding all
  all-next n ok c e k = rw (e, k, add-one)

  pub all-at : (n i : ℕ) → all n f ≡ true → i < n → f i ≡ true
  unfolding all
  all-at zero i h k = absurd (omega arith)
  all-at (suc n) i h k = let w = both (all n f) (f n) h in let on = all-at n i w.0 in either i n (λ e. rw e w.1) (λ e. on (omega arith))

  pub all-false : (n i : ℕ) → i < n → f i ≡ false → all n f ≡ false
  unfolding all
  all-false zero i k h = absurd (omega arith)
  all-false (suc n) i k h = let on = all-false n i in either i n (λ e. and_no (all n f) (f n) (rw e at h)) (λ e. rw (on (omega arith) h))

pub all_true : (n : ℕ) (f : ℕ → Bool) → ((i : ℕ) → i < n → f i ≡ true) → all n f ≡ true
unfolding all
all_true zero f h = refl
all_true (suc n) f h = rw (all_true n f (λ i k. h i (omega arith)), h n (omega arith))

pub all-ext : (n : ℕ) (f g : ℕ → Bool) → ((i : ℕ) → i < n → f i ≡ g i) → all n f ≡ all n g
unfolding all
all-ext zero f g h = refl
all-ext (suc n) f g h = rw (all-ext n f g (λ i k. h i (omega arith)), h n (omega arith))
