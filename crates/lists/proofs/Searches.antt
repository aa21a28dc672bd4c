-- The numbers below a limit that pass a test, from a number on. Assumes nothing.
use Prim.Native.Nat.{◌+◌, ◌-◌, ◌<◌, ◌≤◌, suc, zero, ℕ}
use native.Mathlib.Numerals.{add-one}
use native.Mathlib.Omega.{arith}
use mathlib.Core.Bool.{Bool, false, true}
use mathlib.Core.List.{List, [], ◌∷◌, cons≢nil}
use mathlib.Core.Path.{◌∙◌, ◌≡◌, ap, sym}
use lib.ListN.{drop, get_or, length}
use Rattle.lists.specs.Lists.{filter, first, first_or, times}
use Rattle.lists.specs.Numbers.{count_up, listed}
use Rattle.lists.proofs.Bools.{below?, split}
use Rattle.lists.proofs.ListLaws.{passes, times-filter}
use Rattle.lists.proofs.RoundLaws.{in-count_up}
use Rattle.lists.proofs.Rows.{times-at}

module _ (f : ℕ → Bool) (limit : ℕ) where
  abbrev pub passing : ℕ → List ℕ
  passing i = filter f (count_up i (limit - i))

  -- A turn

  next : (i : ℕ) → i < limit → count_up i (limit - i) ≡ i ∷ count_up (i + 1) (limit - (i + 1))
  unfolding listed
  next i h = let e : limit - i ≡ suc (limit - (i + 1)) = omega arith in rw (e, add-one)

  pub passing-in : (i : ℕ) → i < limit → f i ≡ true → passing i ≡ i ∷ passing (i + 1)
  unfolding filter
  passing-in i h e = rw (next i h, e)

  pub passing-over : (i : ℕ) → i < limit → f i ≡ false → passing i ≡ passing (i + 1)
  unfolding filter
  passing-over i h e = rw (next i h, e)

  pub passing-none : (i : ℕ) → limit ≤ i → passing i ≡ []
  unfolding filter listed
  passing-none i h = let e : limit - i ≡ 0 = omega arith in rw e

  -- One after the other

  -- behind the first from p on stand those from one past it on
  past-within : (n p x : ℕ) (xs : List ℕ) → limit ≤ p + n → passing p ≡ x ∷ xs → passing (x + 1) ≡ xs
  unfolding first_or
  past-within zero p x xs l e = absurd (cons≢nil (sym e ∙ passing-none p (omega arith)))
  past-within (suc n) p x xs l e =
      let on = past-within n (p + 1) x xs (omega arith) in
      below? p limit
      (λ h. split (f p)
      (λ d. let w = sym (passing-in p h d) ∙ e in ap (λ (y : ℕ). passing (y + 1)) (sym (ap first w)) ∙ ap (drop 1) w)
      (λ d. on (sym (passing-over p h d) ∙ e)))
      (λ h. absurd (cons≢nil (sym e ∙ passing-none p h)))

  pub past_first : (p x : ℕ) (xs : List ℕ) → passing p ≡ x ∷ xs → passing (x + 1) ≡ xs
  past_first p x xs = past-within limit p x xs (omega arith)

  pub passing-below : (p i : ℕ) → i < length (passing p) → get_or (passing p) i 0 < p + (limit - p)
  passing-below p i h =
      let x : ℕ = get_or (passing p) i 0 in
      let one : 1 ≤ times x (passing p) = times-at (passing p) i h in
      let same : times x (passing p) ≡ times x (count_up p (limit - p)) = times-filter x f (count_up p (limit - p)) ∙ rw (passes f (count_up p (limit - p)) x one) in
      (in-count_up x p (limit - p) (omega (arith, one, same))).1
