-- Tests that hold exactly when what they test is so. Assumes nothing.
use Prim.Native.Nat.{ℕ}
use mathlib.Core.Bool.{Bool, ◌||◌, false, false≢true, not, true}
use mathlib.Core.Logic.{◌⊎◌, ◌↔◌, inl, inr, ⊎_elim}
use mathlib.Core.Path.{◌≡◌, refl}
use lib.Dec.{T, eqb}
use lib.IntN.{ℤ}
use lib.Signed.{◌<ℤ◌, ◌≤ℤ◌, le_z, lt_z}
use borrow.Author.Tests.{eq-eqb, eqb-true}

-- the test b holds exactly when P is so
abbrev pub Tests : Bool → Type 0 → Type 0
Tests b P = (b ≡ true) ↔ P

pub tests-or : {P Q : Type 0} (a b : Bool) → Tests a P → Tests b Q → Tests (a || b) (P ⊎ Q)
tests-or true b p q = (λ e. inl (p.0 refl), λ w. refl)
tests-or false b p q = (λ e. inr (q.0 e), ⊎_elim (λ w. absurd (false≢true (p.1 w))) q.1)

pub tests-not : {P : Type 0} (b : Bool) → Tests b P → Tests (not b) (¬ P)
tests-not true p = (λ e. absurd (false≢true e), λ n. absurd (n (p.0 refl)))
tests-not false p = (λ e w. false≢true (p.1 w), λ n. refl)

pub tests-eqb : (m n : ℕ) → Tests (eqb m n) (m ≡ n)
tests-eqb m n = (eqb-true m n, eq-eqb m n)

tests-T : (b : Bool) → Tests b (T b)
tests-T true = (λ e. tt, λ w. refl)
tests-T false = (λ e. absurd (false≢true e), λ w. absurd w)

pub tests-lt_z : (a b : ℤ) → Tests (lt_z a b) (a <ℤ b)
tests-lt_z a b = (λ e. record { lt = (tests-T (lt_z a b)).0 e }, λ w. (tests-T (lt_z a b)).1 w.lt)

pub tests-le_z : (a b : ℤ) → Tests (le_z a b) (a ≤ℤ b)
tests-le_z a b = (λ e. record { le = (tests-T (le_z a b)).0 e }, λ w. (tests-T (le_z a b)).1 w.le)
