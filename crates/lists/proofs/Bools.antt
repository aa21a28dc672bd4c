-- Laws of truth values, and the case splits that proofs are made with. Assumes nothing.
use Prim.Native.Nat.{◌<◌, ◌≤◌, ℕ}
use mathlib.Core.Path.{◌∙◌, ◌≡◌, refl, sym}
use mathlib.Core.Bool.{Bool, ◌&&◌, false, false≢true, not, true}
use lib.Dec.{eqb, ltb}
use borrow.Author.Tests.{eqb-false, eqb-true, ltb-false, ltb-true, ne_eqb}

-- a test holds or not
pub split {ℓ} : {P : Type ℓ} (b : Bool) → (b ≡ true → P) → (b ≡ false → P) → P
split true f g = f refl
split false f g = g refl

-- two numbers are the same or not
pub either {ℓ} : {P : Type ℓ} (i j : ℕ) → (i ≡ j → P) → ((i ≡ j → ⊥) → P) → P
either i j f g = split (eqb i j) (λ e. f (eqb-true i j e)) (λ e. g (eqb-false i j e))

-- a number is below another or not
pub below? {ℓ} : {P : Type ℓ} (i n : ℕ) → (i < n → P) → (n ≤ i → P) → P
below? i n f g = split (ltb i n) (λ e. f (ltb-true i n e)) (λ e. g (ltb-false i n e))

pub both : (a b : Bool) → (a && b) ≡ true → (a ≡ true) × (b ≡ true)
both true b h = (refl, h)
both false b h = absurd (false≢true h)

pub and_in : {a b : Bool} → a ≡ true → b ≡ true → (a && b) ≡ true
and_in h k = rw (h, k)

pub and_no : (a b : Bool) → b ≡ false → (a && b) ≡ false
and_no true b h = h
and_no false b h = refl

pub bool_iff : (a b : Bool) → (a ≡ true → b ≡ true) → (b ≡ true → a ≡ true) → a ≡ b
bool_iff true b f g = sym (f refl)
bool_iff false true f g = g refl
bool_iff false false f g = refl

pub not-true : (b : Bool) → not b ≡ true → b ≡ false
not-true true h = sym h
not-true false h = refl

pub not-false : (b : Bool) → not b ≡ false → b ≡ true
not-false true h = refl
not-false false h = sym h

pub eqb_swap : (m n : ℕ) → eqb m n ≡ eqb n m
eqb_swap m n = either m n (λ e. rw e refl) (λ d. ne_eqb m n d ∙ sym (ne_eqb n m (λ z. d (sym z))))
