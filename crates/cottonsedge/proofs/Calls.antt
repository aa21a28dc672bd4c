-- One call on the bytes of sound tables whose counts fit: what it answers, field by field, and what it leaves. Assumes nothing.
use Prim.Native.Nat.{◌<◌, ℕ}
use native.Mathlib.Omega.{arith}
use mathlib.Core.Bool.{true}
use mathlib.Core.Path.{◌∙◌, ◌≡◌, ap}
use lib.IntN.{ℤ}
use mir.Syntax.{w32}
use mir.Val.{SFits, of_z}
use Rattle.layout.specs.Bytes.{from_bytes, to_bytes, well_formed}
use Rattle.rules.specs.Answers.{number_of, value_of}
use Rattle.rules.specs.Enter.{numbered}
use Rattle.rules.specs.declared.Answer.{Answer}
use Rattle.tables.specs.Counts.{CountsFit}
use Rattle.tables.specs.Limits.{process_limit}
use Rattle.tables.specs.Readers.{current_of}
use Rattle.tables.specs.Sound.{Sound}
use Rattle.tables.specs.declared.Tables.{Tables}
use Rattle.layout.proofs.Image.{formed-made, tables-back}
use Rattle.rules.proofs.Fits.{fits-numbered}
use Rattle.rules.proofs.Kept.{sound-numbered}
use Rattle.rules.proofs.Numbers.{enter-sound}
use Rattle.rules.proofs.Refusals.{numbered-ranged}
use Rattle.tables.proofs.Sentences.{current-below}
use Rattle.cottonsedge.specs.Entries.{answer_of, bytes_after}
use Rattle.cottonsedge.specs.Fields.{packed, process_field, refusal_field, unpacked, value_field, value_step}
use Rattle.cottonsedge.proofs.FieldLaws.{packed-back, process-back, refusal-back, value-back}
use Rattle.cottonsedge.proofs.Standing.{sound-held}

module _ {t : Tables} (S : Sound t) (F : CountsFit t) where
  pub back : from_bytes (to_bytes t) ≡ t
  back = tables-back t (sound-held S F)

  formed : well_formed (to_bytes t) ≡ true
  formed = formed-made t (sound-held S F)

  module _ (n : ℕ) (a b : ℤ) where
    abbrev r : Answer
    r = (numbered t n a b).answer

    abbrev t' : Tables
    t' = (numbered t n a b).tables

    pub call-bytes : bytes_after (to_bytes t) n a b ≡ to_bytes t'
    unfolding bytes_after
    call-bytes = rw (formed, back, (enter-sound t a b n S).0)

    pub call-packed : answer_of (to_bytes t) n a b ≡ packed r (current_of t')
    unfolding answer_of
    call-packed = let e = enter-sound t a b n S in rw (formed, back, e.0, e.1)

    pub call-runs : current_of t' < process_limit
    call-runs = current-below (sound-numbered S n a b)

    process-small : current_of t' < value_step
    process-small = omega (arith, call-runs)

    module _ (fa : SFits w32 a) (fb : SFits w32 b) where
      pub value-fits : SFits w32 (value_of r)
      value-fits = (fits-numbered S F n a b fa fb).1

      pub call-refusal : refusal_field (answer_of (to_bytes t) n a b) ≡ number_of r
      call-refusal = ap refusal_field call-packed ∙ refusal-back r (current_of t') value-fits process-small

      pub call-value : value_field (answer_of (to_bytes t) n a b) ≡ of_z w32 (value_of r)
      call-value = ap value_field call-packed ∙ value-back r (current_of t') value-fits process-small

      pub call-process : process_field (answer_of (to_bytes t) n a b) ≡ current_of t'
      call-process = ap process_field call-packed ∙ process-back r (current_of t') value-fits process-small

      pub call-answer : unpacked (answer_of (to_bytes t) n a b) ≡ r
      call-answer = ap unpacked call-packed ∙ packed-back r (current_of t') value-fits process-small (numbered-ranged t n a b)
