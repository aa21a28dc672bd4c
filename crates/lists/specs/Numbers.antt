-- Words on the numbers below a limit.
use Rattle.std.specs.Prelude.{if◌then◌else◌, ℕ, zero, suc, ◌+◌, ◌-◌, ◌<◌, ◌≡◌, Bool, true, false, ◌&&◌, List, [], ◌∷◌, ◌++◌, ltb}

-- f of the n numbers from k on
unfoldable pub listed : {A : Type 0} → ℕ → ℕ → (ℕ → A) → List A
listed k zero f = []
listed k (suc n) f = f k ∷ listed (suc k) n f

-- the n numbers from k on
abbrev pub count_up : ℕ → ℕ → List ℕ
count_up k n = listed k n (λ i. i)

-- the numbers below size from k on, going round
unfoldable pub round_from : ℕ → ℕ → List ℕ
round_from size k = count_up k (size - k) ++ count_up 0 k

-- the number i places from k on, going round
abbrev pub onward : ℕ → ℕ → ℕ → ℕ
onward size k i = if ltb (k + i) size then k + i else (k + i - size)

-- x is the first number from k on, going round, that passes the test: it stands so many places on, within one round,
-- and every number passed over fails
pub record FirstFrom (test : ℕ → Bool) (size k x : ℕ) : Type 0 where
  pub below : x < size
  pub passes : test x ≡ true
  pub places : ℕ
  pub within : places < size
  pub there : onward size k places ≡ x
  pub passed_over : (j : ℕ) → j < places → test (onward size k j) ≡ false

-- f holds of every number below n
unfoldable pub all : ℕ → (ℕ → Bool) → Bool
all zero f = true
all (suc n) f = all n f && f n

-- the sum of w over the numbers below n
unfoldable pub total : ℕ → (ℕ → ℕ) → ℕ
total zero w = 0
total (suc n) w = total n w + w n
