-- Arrays made by a closure, as `array::from_fn` makes them. Assumes nothing.
use Rattle.std.proofs.Common.{ℕ, zero, suc, ◌+◌, ◌≤◌, ◌<◌, ◌≡◌, List, sym, arith, get_or, subst}
use Rattle.std.specs.Array.{IsFromFnResult, IsFromFnResultFrom}
use Rattle.std.specs.Fn.{Mut, Called}
use Rattle.lists.specs.Numbers.{listed}
use Rattle.lists.proofs.Bools.{either}
use Rattle.lists.proofs.NumberLaws.{listed-all}

module _ {F A : Type 0} {g : Mut F (ℕ × Unit {0}) A} {s : F} where
  -- what each call tells of its place and its answer, where it keeps what the closure holds, holds of each entry
  module _ (P : ℕ → A → Type 0) (z : A) (told : (i : ℕ) (x : A) (t : F) → Called g s (i, tt) x t → (t ≡ s) × P i x) where
    made-from : (xs : List A) (k n i : ℕ) → IsFromFnResultFrom g s xs k n → k ≤ i → i < k + n → P i (get_or xs i z)
    made-from xs k zero i made lo hi = absurd (omega arith)
    made-from xs k (suc n) i made lo hi =
        let here = told k made.1 made.0 made.3 in
        let rest = subst (λ (t : F). IsFromFnResultFrom g t xs (k + 1) n) here.0 made.4 in
        either i k (λ e. rw (e, made.2.1 z) here.1) (λ d. made-from xs (k + 1) n i rest (omega arith) (omega arith))

    pub made-each : {xs : List A} {n : ℕ} → IsFromFnResult g s xs n → (i : ℕ) → i < n → P i (get_or xs i z)
    made-each {xs} {n} made i h = made-from xs 0 n i made.each (omega arith) (omega arith)

  -- where each answer is f of the place, the array is what is listed of f
  pub listed-made : (f : ℕ → A) (z : A) → ((i : ℕ) (x : A) (t : F) → Called g s (i, tt) x t → (t ≡ s) × (x ≡ f i)) → {xs : List A} {n : ℕ} → IsFromFnResult g s xs n → xs ≡ listed 0 n f
  listed-made f z told {xs} {n} made = sym (listed-all z f n xs made.long (λ i h. sym (made-each (λ j x. x ≡ f j) z told made i h)))
