use Rattle.std.proofs.Common.{◌≡◌, ◌++◌, drop, length}
use Rattle.lines.specs.Hex.{written}
use Rattle.lines.specs.Answers.{answer_length, text_of}
use Rattle.lines.proofs.answer.answer_text.Given as goal

abbrev pub invariant-loop-i : goal.invariant-loop-i
invariant-loop-i l = record {
  long : length l.text ≡ answer_length;
  same : written l.i l.rest ++ drop l.i l.text ≡ text_of l.answer;
}
