-- Good bytes are sound tables, and who runs in them is known. Assumes nothing.
use Rattle.std.specs.Prelude.{None, Some, is_some, unwrap_or, if◌then◌else◌}
use Rattle.std.proofs.lemmas.Option.{none-some, same_Some}
use Prim.Native.Nat.{◌<◌, ℕ}
use native.Mathlib.Omega.{arith}
use mathlib.Core.Bool.{Bool, false, not, true}
use mathlib.Core.List.{List}
use mathlib.Core.Path.{◌∙◌, ◌≡◌, refl, sym}
use lib.Dec.{eqb}
use borrow.Author.Tests.{eq-eqb, ne_eqb}
use Rattle.layout.specs.Bytes.{from_bytes, well_formed}
use Rattle.tables.specs.Readers.{current_of, nobody}
use Rattle.tables.specs.Sound.{Sound}
use Rattle.tables.specs.Test.{sound_now}
use Rattle.lists.proofs.Bools.{both, either, split}
use Rattle.tables.proofs.Sentences.{current-below}
use Rattle.tables.proofs.TestLaws.{checked-sound}
use Rattle.soundness.specs.Good.{current_byte, good, runner_of_bytes}

module _ (bs : List ℕ) (g : good bs ≡ true) where
  pub good-formed : well_formed bs ≡ true
  unfolding good
  good-formed = (both (well_formed bs) (sound_now (from_bytes bs)) g).0

  pub good-sound : Sound (from_bytes bs)
  unfolding good
  good-sound = checked-sound (both (well_formed bs) (sound_now (from_bytes bs)) g).1

-- bytes are good exactly if somebody is known to run
pub none-bad : (bs : List ℕ) → None ≡ runner_of_bytes bs → good bs ≡ false
unfolding runner_of_bytes
none-bad bs e = split (good bs) (λ g. absurd (none-some (current_of (from_bytes bs)) (e ∙ rw g))) (λ g. g)

pub some-good : (bs : List ℕ) (c : ℕ) → Some c ≡ runner_of_bytes bs → (good bs ≡ true) × (c ≡ current_of (from_bytes bs))
unfolding runner_of_bytes
some-good bs c e = split (good bs) (λ g. (g, same_Some c (current_of (from_bytes bs)) (e ∙ rw g))) (λ g. absurd (none-some c (sym (e ∙ rw g))))

pub some_is : (bs : List ℕ) → is_some (runner_of_bytes bs) ≡ good bs
unfolding runner_of_bytes
some_is bs = split (good bs) (λ g. rw g) (λ g. rw g)

-- the same of the byte that is told
pub current-told : (bs : List ℕ) → unwrap_or (runner_of_bytes bs) nobody ≡ current_byte bs
unfolding current_byte runner_of_bytes
current-told bs = split (good bs) (λ g. rw g) (λ g. rw g)

module _ (bs : List ℕ) (c : ℕ) (e : c ≡ current_byte bs) where
  pub unknown-bad : c ≡ nobody → good bs ≡ false
  unfolding current_byte
  unknown-bad k = go (good bs) refl
    where
      go : (b : Bool) → good bs ≡ b → b ≡ false
      go true g = let small = current-below (good-sound bs g) in let is : c ≡ current_of (from_bytes bs) = e ∙ rw g in absurd (omega arith)
      go false g = refl

  pub known-good : (c ≡ nobody → ⊥) → (good bs ≡ true) × (c ≡ current_of (from_bytes bs))
  unfolding current_byte
  known-good some = go (good bs) e
    where
      go : (b : Bool) → c ≡ (if b then current_of (from_bytes bs) else nobody) → (b ≡ true) × (c ≡ current_of (from_bytes bs))
      go true q = (refl, q)
      go false q = absurd (some q)

  -- which is what the check answers
  pub known_is : not (eqb c nobody) ≡ good bs
  known_is = either c nobody (λ k. rw (eq-eqb c nobody k) (sym (unknown-bad k))) (λ d. rw (ne_eqb c nobody d) (sym (known-good d).0))

-- who runs is told in one byte
pub current-small : (bs : List ℕ) → current_byte bs < 256
unfolding current_byte
current-small bs = split (good bs) (λ g. let h = current-below (good-sound bs g) in rw g (omega arith)) (λ g. rw g (omega arith))
