-- The form of the bytes, tested for states and places in one pass. Assumes nothing.
use Prim.Native.Nat.{suc, zero, ℕ}
use mathlib.Core.Bool.{Bool, ◌&&◌, false, true}
use mathlib.Core.List.{List}
use mathlib.Core.Path.{◌≡◌, refl}
use lib.ListN.{length}
use borrow.Author.Tests.{eq-eqb}
use Rattle.layout.specs.Bytes.{flag_plain, place_named, state_named, well_formed}
use Rattle.layout.specs.Offsets.{size}
use Rattle.lists.specs.Numbers.{all}
use Rattle.tables.specs.Limits.{process_limit, semaphore_limit}

and-mix : (a b c d : Bool) → ((a && b) && (c && d)) ≡ ((a && c) && (b && d))
and-mix true true c d = refl
and-mix true false true d = refl
and-mix true false false d = refl
and-mix false b c d = refl

and_last : (a b c : Bool) → ((a && b) && c) ≡ (a && (c && b))
and_last true true true = refl
and_last true true false = refl
and_last true false true = refl
and_last true false false = refl
and_last false b c = refl

all_both : (n : ℕ) (f g : ℕ → Bool) → all n (λ i. f i && g i) ≡ (all n f && all n g)
unfolding all
all_both zero f g = refl
all_both (suc n) f g = rw (all_both n f g) (and-mix (all n f) (all n g) (f n) (g n))

module _ (bs : List ℕ) where
  abbrev states : Bool
  states = all process_limit (state_named bs)

  abbrev flags : Bool
  flags = all semaphore_limit (flag_plain bs)

  abbrev places : Bool
  places = all process_limit (place_named bs)

  -- well formed is what is of the right length and passes both
  pub form-said : length bs ≡ size → (b d : Bool) → b ≡ all process_limit (λ i. state_named bs i && place_named bs i) → d ≡ flags → (b && d) ≡ well_formed bs
  unfolding well_formed
  form-said l b d e k = rw (eq-eqb (length bs) size l, e, k, all_both process_limit (state_named bs) (place_named bs)) (and_last states places flags)
