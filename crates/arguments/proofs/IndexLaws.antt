-- Arguments as the code has them: signed numbers read back from their 32 bits, and the entries that they name. Assumes nothing.
use Prim.Native.Nat.{◌<◌, ℕ}
use native.Mathlib.Omega.{arith}
use mathlib.Core.Path.{◌∙◌, ◌≡◌, ap, sym}
use lib.IntN.{negsuc, pos, ℤ}
use mir.Syntax.{w32}
use mir.Val.{SFits, of_z, to_z}
use mir.ValLaws.{to_z-of_z}
use Rattle.std.proofs.lemmas.Bool.Decides.{nat_tests}
use Rattle.std.specs.Prelude.{Option, Some}
use Rattle.arguments.specs.Index.{index_below}

-- an argument that is a number below the limit
pub number : (z : ℤ) (m n : ℕ) → index_below z m ≡ Some n → (z ≡ pos n) × (n < m)
number (pos k) m n e = grind (arith, nat_tests)
number (negsuc k) m n e = absurd (cc)

-- an argument passed on is read back from its bits
pub passed : (z : ℤ) (m : ℕ) (i k : Option ℕ) → SFits w32 z → i ≡ index_below (to_z w32 (of_z w32 z)) m → i ≡ k → index_below z m ≡ k
passed z m i k f e is = ap (λ (y : ℤ). index_below y m) (sym (to_z-of_z w32 z f)) ∙ sym e ∙ is
