-- Laws of a list in falling order. Assumes nothing.
use Prim.Native.Nat.{ℕ, ◌≤◌}
use native.Mathlib.Omega.{arith}
use mathlib.Core.Bool.{Bool, true, false}
use mathlib.Core.List.{List, [], ◌∷◌}
use mathlib.Core.Path.{◌≡◌, refl}
use lib.Dec.{eqb, leb}
use borrow.Author.Tests.{eq-eqb, le-leb, eqb-true, leb-true}
use Rattle.lists.specs.Lists.{filter, put_before, times, AtMost, Falling, falls}
use Rattle.lists.proofs.Bools.{split, both, and_in}

module _ (rank : ℕ → ℕ) where
  pub at_most-mono : (m n : ℕ) (xs : List ℕ) → m ≤ n → AtMost rank m xs → AtMost rank n xs
  at_most-mono m n [] h a = tt
  at_most-mono m n (x ∷ xs) h a = (let k : rank x ≤ m = a.0 in omega arith, at_most-mono m n xs h a.1)

  pub at_most-filter : (f : ℕ → Bool) (n : ℕ) (xs : List ℕ) → AtMost rank n xs → AtMost rank n (filter f xs)
  unfolding filter
  at_most-filter f n [] a = tt
  at_most-filter f n (x ∷ xs) a = let ih = at_most-filter f n xs a.1 in split (f x) (λ e. rw e (a.0, ih)) (λ e. rw e ih)

  pub at_most-member : (n : ℕ) (xs : List ℕ) (p : ℕ) → AtMost rank n xs → 1 ≤ times p xs → rank p ≤ n
  unfolding times
  at_most-member n [] p a h = absurd (omega arith)
  at_most-member n (x ∷ xs) p a h =
      split (eqb x p) (λ e. rw (← (eqb-true x p e)) a.0) (λ e. at_most-member n xs p a.1 (rw e at h))

  pub at_most-all : (n : ℕ) (xs : List ℕ) → ((p : ℕ) → 1 ≤ times p xs → rank p ≤ n) → AtMost rank n xs
  unfolding times
  at_most-all n [] h = tt
  at_most-all n (x ∷ xs) h =
      (h x (rw (eq-eqb x x refl) (omega arith)), at_most-all n xs (λ p k. h p (split (eqb x p) (λ e. rw e (omega arith)) (λ e. rw e k))))

  pub falling-filter : (f : ℕ → Bool) (xs : List ℕ) → Falling rank xs → Falling rank (filter f xs)
  unfolding filter
  falling-filter f [] a = tt
  falling-filter f (x ∷ xs) a = let ih = falling-filter f xs a.1 in split (f x) (λ e. rw e (at_most-filter f (rank x) xs a.0, ih)) (λ e. rw e ih)

  module _ (test : ℕ → Bool) (p : ℕ) where
    pub at_most-put : (n : ℕ) (xs : List ℕ) → rank p ≤ n → AtMost rank n xs → AtMost rank n (put_before test p xs)
    unfolding put_before
    at_most-put n [] h a = (h, tt)
    at_most-put n (x ∷ xs) h a = let ih = at_most-put n xs h a.1 in split (test x) (λ e. rw e (h, a)) (λ e. rw e (a.0, ih))

    -- put before one that isn't above it and behind all that aren't below it
    pub falling-put : ((x : ℕ) → test x ≡ true → rank x ≤ rank p) → ((x : ℕ) → test x ≡ false → rank p ≤ rank x) → (xs : List ℕ) → Falling rank xs → Falling rank (put_before test p xs)
    unfolding put_before
    falling-put up down [] a = (tt, tt)
    falling-put up down (x ∷ xs) a =
        let ih = falling-put up down xs a.1 in
        split (test x)
        (λ e. rw e ((up x e, at_most-mono (rank x) (rank p) xs (up x e) a.0), a))
        (λ e. rw e (at_most-put (rank x) xs (down x e) a.0, ih))

-- another rank, the same on what passes the test
module _ (rank rank' : ℕ → ℕ) (f : ℕ → Bool) (h : (x : ℕ) → f x ≡ true → rank' x ≡ rank x) where
  at_most-ext : (n : ℕ) (xs : List ℕ) → AtMost rank n (filter f xs) → AtMost rank' n (filter f xs)
  unfolding filter
  at_most-ext n [] a = tt
  at_most-ext n (x ∷ xs) a =
      split (f x) (λ e. let k = rw e at a in rw (e, h x e) (k.0, at_most-ext n xs k.1)) (λ e. rw e (at_most-ext n xs (rw e at a)))

  pub falling-ext : (xs : List ℕ) → Falling rank (filter f xs) → Falling rank' (filter f xs)
  unfolding filter
  falling-ext [] a = tt
  falling-ext (x ∷ xs) a =
      split (f x)
      (λ e. let k = rw e at a in rw e (rw (h x e) (at_most-ext (rank x) xs k.0), falling-ext xs k.1))
      (λ e. rw e (falling-ext xs (rw e at a)))

-- the test

pub falls-both : (rank : ℕ → ℕ) (n : ℕ) (xs : List ℕ) → falls rank n xs ≡ true → AtMost rank n xs × Falling rank xs
unfolding falls
falls-both rank n [] h = (tt, tt)
falls-both rank n (x ∷ xs) h =
    let w = both (leb (rank x) n) (falls rank (rank x) xs) h in
    let up : rank x ≤ n = leb-true (rank x) n w.0 in
    let rest = falls-both rank (rank x) xs w.1 in
    ((up, at_most-mono rank (rank x) n xs up rest.0), rest)

pub both-falls : (rank : ℕ → ℕ) (n : ℕ) (xs : List ℕ) → AtMost rank n xs → Falling rank xs → falls rank n xs ≡ true
unfolding falls
both-falls rank n [] a f = refl
both-falls rank n (x ∷ xs) a f = and_in (le-leb (rank x) n a.0) (both-falls rank (rank x) xs f.0 f.1)
