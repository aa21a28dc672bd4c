-- A set of numbers as the bits of one. Assumes nothing.
use Rattle.std.specs.Prelude.{if◌then◌else◌}
use Prim.Native.Nat.{◌%◌, ◌*◌, ◌+◌, ◌-◌, ◌<◌, ◌^◌, ◌≤◌, suc, zero, ℕ}
use native.Mathlib.Nat.{mod-eq_of_lt, pow-le-pow_right, pow-suc, zero-mul}
use native.Mathlib.Omega.{arith}
use mathlib.Core.Bool.{Bool, ◌||◌, false, and-true, or-false}
use mathlib.Core.Path.{◌∙◌, ◌≡◌, ap, refl, sym}
use lib.Bits.{bit_or, or_block, or_zero_r}
use lib.Dec.{eqb}
use lib.Pow.{pow_pos}
use borrow.Author.Tests.{eq-eqb, eqb-true, ne_eqb}
use Rattle.lists.specs.Numbers.{all}
use Rattle.lists.proofs.Bools.{and_no, bool_iff, either, split}

pow-lt : (q n : ℕ) → q < n → 2 ^ q < 2 ^ n
pow-lt q n h =
    let a : 2 ^ suc q ≤ 2 ^ n = pow-le-pow_right {n = 2} (omega arith) {i = suc q} {j = n} (omega arith) in
    let b = pow-suc 2 q in
    let d : 0 < 2 ^ q = pow_pos q in
    omega arith

-- the number whose bit p is f p, for p below n
unfoldable pub mask : ℕ → (ℕ → Bool) → ℕ
mask zero f = 0
mask (suc n) f = (if f n then 1 else 0) * 2 ^ n + mask n f

pub mask-ext : (n : ℕ) (f g : ℕ → Bool) → ((p : ℕ) → p < n → f p ≡ g p) → mask n f ≡ mask n g
unfolding mask
mask-ext zero f g h = refl
mask-ext (suc n) f g h = rw (mask-ext n f g (λ p k. h p (omega arith)), h n (omega arith))

pub mask_lt : (n : ℕ) (f : ℕ → Bool) → mask n f < 2 ^ n
unfolding mask
mask_lt zero f = omega arith
mask_lt (suc n) f = let h = mask_lt n f in let e = pow-suc 2 n in split (f n) (λ b. rw b (omega arith)) (λ b. rw b (omega arith))

pub mask-none : (n : ℕ) → mask n (λ p. false) ≡ 0
unfolding mask
mask-none zero = refl
mask-none (suc n) = let e = mask-none n in let z = zero-mul (2 ^ n) in omega arith

-- one number more
pub mask-or : (n : ℕ) (f : ℕ → Bool) (q : ℕ) → q < n → bit_or (mask n f) (2 ^ q) ≡ mask n (λ p. f p || eqb p q)
unfolding mask
mask-or zero f q h = absurd (omega arith)
mask-or (suc n) f q h =
    let l = mask_lt n f in
    let b : ℕ = if f n then 1 else 0 in
    either n q
    (λ e.
    let one : 1 * 2 ^ n + 0 ≡ 2 ^ n = omega arith in
    let rest : mask n (λ p. f p || eqb p n) ≡ mask n f = mask-ext n (λ p. f p || eqb p n) f (λ p k. rw (ne_eqb p n (omega arith)) (or-false (f p))) in
    rw (← e)
    (ap (bit_or (b * 2 ^ n + mask n f)) (sym one)
    ∙ or_block n b 1 (mask n f) 0 l (omega arith)
    ∙ rw (rest, or_zero_r (mask n f), eq-eqb n n refl) (split (f n) (λ c. rw c) (λ c. rw c))))
    (λ d.
    let none : 0 * 2 ^ n + 2 ^ q ≡ 2 ^ q = ap (λ (k : ℕ). k + 2 ^ q) (zero-mul (2 ^ n)) ∙ omega arith in
    rw (ne_eqb n q d)
    (ap (bit_or (b * 2 ^ n + mask n f)) (sym none)
    ∙ or_block n b 0 (mask n f) (2 ^ q) l (pow-lt q n (omega arith))
    ∙ rw (mask-or n f q (omega arith)) (split (f n) (λ c. rw c) (λ c. rw c))))

-- every bit
pub mask_full : (n : ℕ) (f : ℕ → Bool) → eqb (mask n f) (2 ^ n - 1) ≡ all n f
unfolding mask all
mask_full zero f = refl
mask_full (suc n) f =
    let l = mask_lt n f in
    let e = pow-suc 2 n in
    let some = pow_pos n in
    split (f n)
    (λ b.
    rw b
    (bool_iff (eqb (1 * 2 ^ n + mask n f) (2 ^ suc n - 1)) (eqb (mask n f) (2 ^ n - 1))
    (λ k. let k' = eqb-true (1 * 2 ^ n + mask n f) (2 ^ suc n - 1) k in eq-eqb (mask n f) (2 ^ n - 1) (omega arith))
    (λ k. let k' = eqb-true (mask n f) (2 ^ n - 1) k in eq-eqb (1 * 2 ^ n + mask n f) (2 ^ suc n - 1) (omega arith))
    ∙ mask_full n f ∙ sym (and-true (all n f))))
    (λ b. rw b (ne_eqb (0 * 2 ^ n + mask n f) (2 ^ suc n - 1) (λ k. let z = zero-mul (2 ^ n) in omega arith) ∙ sym (and_no (all n f) false refl)))

-- what the machine shifts
pub shifted : (q : ℕ) → q < 32 → 1 * 2 ^ q % 4294967296 ≡ 2 ^ q
shifted q h =
    let l : 2 ^ q < 4294967296 = pow-lt q 32 h in
    let e : 1 * 2 ^ q ≡ 2 ^ q = omega arith in
    ap (λ (k : ℕ). k % 4294967296) e ∙ mod-eq_of_lt l
