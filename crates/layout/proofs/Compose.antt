-- Readers and writers, composed. Assumes nothing.
use mathlib.Core.List.{List}
use mathlib.Core.Path.{◌∙◌, ◌≡◌, subst}
use Prim.Native.Nat.{ℕ}
use Rattle.layout.specs.Stands.{Stands, Tells, Turns}
use Rattle.tables.specs.declared.Tables.{Tables}

-- one writer, then another
pub in-turn : (f g : Tables → Tables) (a b c : List ℕ) → Turns f a b → Turns g b c → Turns (λ t. g (f t)) a c
unfolding Turns
in-turn f g a b c first second t st = second (f t) (first t st)

module _ {A : Type 0} (f : Tables → A) (a : List ℕ) (x : A) (told : Tells f a x) where
  -- a writer that uses what was read
  pub with-told : (g : A → Tables → Tables) (b : List ℕ) → Turns (g x) a b → Turns (λ t. g (f t) t) a b
  unfolding Tells Turns
  with-told g b put t st = subst (λ (z : A). Stands (g z t) b) (told t st) (put t st)

-- what was read, by another name
pub told-as : {A : Type 0} (f : Tables → A) (bs : List ℕ) (x y : A) → y ≡ x → Tells f bs x → Tells f bs y
unfolding Tells
told-as f bs x y e told t st = e ∙ told t st
