-- Who stands at which place of a list. Assumes nothing.
use Prim.Native.Nat.{ℕ, zero, suc, ◌≤◌, ◌<◌}
use native.Mathlib.Omega.{arith}
use mathlib.Core.List.{List, [], ◌∷◌}
use mathlib.Core.Path.{◌≡◌, refl, ap}
use lib.Dec.{eqb}
use lib.ListN.{get_or, length}
use borrow.Author.Tests.{eq-eqb, eqb-true, ne_eqb}
use Rattle.lists.specs.Lists.{place_in, times}
use Rattle.lists.proofs.Bools.{split}
use Rattle.lists.proofs.Rows.{times-at}

-- A turn of a walk along the list

pub place_none : (p : ℕ) → place_in p [] ≡ 1
unfolding place_in
place_none p = refl

pub place_here : (p : ℕ) (xs : List ℕ) → place_in p (p ∷ xs) ≡ 1
unfolding place_in
place_here p xs = rw (eq-eqb p p refl)

pub place-on : (p x : ℕ) (xs : List ℕ) → (x ≡ p → ⊥) → place_in p (x ∷ xs) ≡ suc (place_in p xs)
unfolding place_in
place-on p x xs d = rw (ne_eqb x p d)

-- whoever stands in a list stands at its place
pub place-holds : (p : ℕ) (xs : List ℕ) → 1 ≤ times p xs → (k : ℕ) × (place_in p xs ≡ suc k) × (k < length xs) × (get_or xs k 0 ≡ p)
unfolding place_in times
place-holds p [] h = absurd (omega arith)
place-holds p (x ∷ xs) h =
    let on = place-holds p xs in
    split (eqb x p)
    (λ e. rw e (0, refl, omega arith, eqb-true x p e))
    (λ e. rw e (let w = on (rw e at h) in (suc w.0, ap suc w.1, omega (arith, w.2), w.3)))

-- the place of an entry that stands there once is where it stands
pub place-index : (xs : List ℕ) (k : ℕ) → k < length xs → times (get_or xs k 0) xs ≡ 1 → place_in (get_or xs k 0) xs ≡ suc k
unfolding place_in times
place-index [] k h e = absurd (omega arith)
place-index (x ∷ xs) zero h e = rw (eq-eqb x x refl)
place-index (x ∷ xs) (suc k) h e =
    let n = times-at xs k (omega arith) in
    let on = place-index xs k (omega arith) in
    split (eqb x (get_or xs k 0)) (λ b. let d = rw b at e in absurd (omega arith)) (λ b. rw b (ap suc (on (rw b at e))))

pub place-above : (p : ℕ) (xs : List ℕ) → 1 ≤ place_in p xs
unfolding place_in
place-above p [] = omega arith
place-above p (x ∷ xs) = split (eqb x p) (λ e. rw e (omega arith)) (λ e. rw e (omega arith))
