-- The digits that are left, before those that stand, are all digits before the newline. Assumes nothing.
use Rattle.std.proofs.Common.{◌≡◌, ◌%◌, ◌∙◌, length-set, arith, refl}
use Rattle.lines.specs.Hex.{written}
use Rattle.lines.specs.Answers.{text_of}
use Rattle.lines.proofs.AnswerLaws.{letter_same, digit-stored}
use Rattle.lines.proofs.answer.answer_text.Goals as goal

pub loop-i-init : goal.loop-i-init
unfolding text_of
loop-i-init c = record { long = refl; same = refl }

pub loop-i-preserved : goal.loop-i-preserved
loop-i-preserved c =
    let l = c.loop-i in
    let digit = (rw c.unwrap-digit.ensures at c.from_digit.ensures.value).1 ∙ letter_same (l.rest % 16) in
    record { long = simp length-set l.invariant.long; same = rw digit (digit-stored l.i l.rest l.text (omega arith) (omega arith) ∙ l.invariant.same) }

pub returns : goal.returns
unfolding written
returns c =
    let none : c.loop-i.i ≡ 0 = omega arith in
    rw none at c.loop-i.invariant.same
