-- Each field of an answer reads back as it was put in, and so does the answer. Assumes nothing.
use Prim.Native.Nat.{◌<◌, ℕ}
use native.Mathlib.Omega.{arith}
use mathlib.Core.Bool.{true, true≢false}
use mathlib.Core.Path.{◌≡◌, ap, subst, sym}
use mir.Syntax.{w32}
use mir.Val.{SFits, of_z}
use mir.ValLaws.{of_z_fits, to_z-of_z}
use borrow.Author.Tests.{ne_eqb}
use Rattle.rules.specs.Answers.{Ranged, may_refuse, number_of, value_of}
use Rattle.rules.specs.declared.Answer.{Answer}
use Rattle.rules.specs.declared.Answer.TheVariants.{Done, Refused}
use Rattle.cottonsedge.specs.Fields.{answer_end, joined, packed, process_field, refusal_field, unpacked, value_end, value_field, value_step}

-- Three fields

module _ (n v p : ℕ) (hv : v < value_end) (hp : p < value_step) where
  refusal-there : refusal_field (joined n v p) ≡ n
  refusal-there = omega arith

  value_there : value_field (joined n v p) ≡ v
  value_there = omega arith

  process-there : process_field (joined n v p) ≡ p
  process-there = omega arith

  joined_small : n < 256 → joined n v p < answer_end
  joined_small h = omega arith

-- An answer whose value fits, with a process

module _ (r : Answer) (p : ℕ) (f : SFits w32 (value_of r)) (h : p < value_step) where
  pub refusal-back : refusal_field (packed r p) ≡ number_of r
  refusal-back = refusal-there (number_of r) (of_z w32 (value_of r)) p (of_z_fits w32 (value_of r) f).fits h

  pub value-back : value_field (packed r p) ≡ of_z w32 (value_of r)
  value-back = value_there (number_of r) (of_z w32 (value_of r)) p (of_z_fits w32 (value_of r) f).fits h

  pub process-back : process_field (packed r p) ≡ p
  process-back = process-there (number_of r) (of_z w32 (value_of r)) p (of_z_fits w32 (value_of r) f).fits h

  pub packed-small : number_of r < 256 → packed r p < answer_end
  packed-small = joined_small (number_of r) (of_z w32 (value_of r)) p (of_z_fits w32 (value_of r) f).fits h

pub packed-back : (r : Answer) (p : ℕ) → SFits w32 (value_of r) → p < value_step → Ranged r → unpacked (packed r p) ≡ r
packed-back (Done v) p f h k = rw (refusal-back (Done v) p f h, value-back (Done v) p f h) (ap Done (to_z-of_z w32 v f))
packed-back (Refused n) p f h k = rw (refusal-back (Refused n) p f h, ne_eqb n 0 (λ z. true≢false (sym (subst (λ (m : ℕ). may_refuse m ≡ true) z k))))
