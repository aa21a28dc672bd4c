-- Counts one up and one down, as far as 32 bits go: those of sound tables never come to the ends. Assumes nothing.
use Prim.Native.Nat.{◌+◌, ◌<◌, ℕ}
use native.Mathlib.Omega.{arith}
use mathlib.Core.Bool.{Bool, false, false≢true, true}
use mathlib.Core.List.{List, []}
use mathlib.Core.Path.{◌∙◌, ◌≡◌, ap, refl, sym}
use lib.IntN.{◌+ℤ◌, ◌-ℤ◌, negsuc, pos, pred_ℤ, suc_ℤ, ℤ}
use lib.ListN.{length}
use lib.Signed.{le_z, lt_z}
use mir.Syntax.{w32}
use mir.Val.{SFits, of_z, to_z}
use mir.ValLaws.{to_z-of_z}
use borrow.Author.Tests.{le-leb, le-ltb, leb-false, lt-leb}
use Rattle.std.proofs.lemmas.Int.{ints}
use Rattle.std.specs.Int.{saturate_signed}
use Rattle.rules.specs.Calls.{below0, largest}
use Rattle.tables.specs.Limits.{process_limit}
use Rattle.tables.specs.Readers.{count_of, queue, state_of}
use Rattle.tables.specs.Sound.{Counted, Sound}
use Rattle.tables.specs.declared.State.TheVariants.{Waiting}
use Rattle.tables.specs.declared.Tables.{Tables}
use Rattle.lists.proofs.ListLaws.{times-empty}
use Rattle.tables.proofs.Sentences.{few-wait, sentences}

-- a number as its bits against 0
below-is : (z : ℤ) → lt_z z (pos 0) ≡ below0 z
below-is (pos n) = le-ltb n 0 (omega arith)
below-is (negsuc n) = refl

pub below-tested : (z : ℤ) → SFits w32 z → (b : Bool) → lt_z (to_z w32 (of_z w32 z)) (pos 0) ≡ b → below0 z ≡ b
below-tested z f b e = sym (below-is z) ∙ (rw (to_z-of_z w32 z f) at e)

-- a count as its bits against the largest
pub full : (z : ℤ) → SFits w32 z → of_z w32 z ≡ 2147483647 → le_z largest z ≡ true
full (pos n) f e = le-leb 2147483647 n (omega arith)
full (negsuc n) f e = absurd (omega (arith, f.sfits))

pub not_full : (z : ℤ) → SFits w32 z → (of_z w32 z ≡ 2147483647 → ⊥) → le_z largest z ≡ false
not_full (pos n) f e = lt-leb 2147483647 n (omega (arith, f.sfits))
not_full (negsuc n) f e = refl

-- a count that isn't the largest goes up by 1
one_up : (z : ℤ) → SFits w32 z → le_z largest z ≡ false → saturate_signed w32 (z +ℤ pos 1) ≡ suc_ℤ z
one_up (pos n) h e = ap pos (omega (arith, h.sfits, leb-false 2147483647 n e))
one_up (negsuc n) h e = grind arith

-- and so it does without a look at the end
pub one_more : (z : ℤ) → SFits w32 z → le_z largest z ≡ false → to_z w32 (of_z w32 (z +ℤ pos 1)) ≡ suc_ℤ z
one_more (pos n) h e = let k : n + 1 < 2147483648 = omega (arith, h.sfits, leb-false 2147483647 n e) in grind (arith, ints)
one_more (negsuc n) h e = grind (arith, ints, h.sfits)

-- a count of -n has n waiters, and those are fewer than the processes: it goes down by 1
one_down : (c : ℤ) (q : List ℕ) → SFits w32 c → Counted c q → length q < process_limit → saturate_signed w32 (c -ℤ pos 1) ≡ pred_ℤ c
one_down (pos n) q f h k = grind arith
one_down (negsuc n) q f h k = ap negsuc (omega arith)

pub lower-sound : {t : Tables} → Sound t → (s : ℕ) → SFits w32 (count_of t s) → saturate_signed w32 (count_of t s -ℤ pos 1) ≡ pred_ℤ (count_of t s)
lower-sound {t} S s f = one_down (count_of t s) (queue t s) f (S.queued.counted s) (few-wait S s)

-- where somebody waits the count is below 0
owed-not-full : (c : ℤ) (q : List ℕ) → Counted c q → (q ≡ [] → ⊥) → le_z largest c ≡ false
owed-not-full (pos n) q h k = absurd (k h)
owed-not-full (negsuc n) q h k = refl

pub raise-sound : {t : Tables} → Sound t → (p s : ℕ) → SFits w32 (count_of t s) → state_of t p ≡ Waiting s → saturate_signed w32 (count_of t s +ℤ pos 1) ≡ suc_ℤ (count_of t s)
raise-sound {t} S p s f h = one_up (count_of t s) f (owed-not-full (count_of t s) (queue t s) (S.queued.counted s) (times-empty p (queue t s) ((sentences S).queued_once p s h)))

owed-some : (c : ℤ) (q : List ℕ) → Counted c q → below0 c ≡ true → q ≡ [] → ⊥
owed-some (pos n) q h b e = false≢true b
owed-some (negsuc n) q h b e = let k : length q ≡ 0 = ap length e in omega arith

-- a count below 0 has a waiter
pub somebody-waits : {t : Tables} → Sound t → (s : ℕ) → below0 (count_of t s) ≡ true → queue t s ≡ [] → ⊥
somebody-waits {t} S s = owed-some (count_of t s) (queue t s) (S.queued.counted s)
