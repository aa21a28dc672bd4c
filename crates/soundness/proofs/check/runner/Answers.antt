use mathlib.Core.Path.{◌∙◌, sym}
use Rattle.soundness.specs.Good.{good, runner_of_bytes}
use Rattle.soundness.proofs.Parts.{unlaid}
use Rattle.soundness.proofs.check.runner.Goals as goal

pub returns-in_err-f : goal.returns-in_err-f
unfolding good runner_of_bytes
returns-in_err-f c = c.from_residual.ensures ∙ sym (rw c.in_err-f.ensures)

pub returns-else-laid : goal.returns-else-laid
unfolding good runner_of_bytes
returns-else-laid c =
    let f = c.in_ok-f.f in
    sym (rw (sym c.in_ok-f.ensures, f.formed, unlaid f.bytes.now f.formed (sym c.laid.ensures ∙ c.if-laid.false)))

pub returns-then-laid : goal.returns-then-laid
unfolding good runner_of_bytes
returns-then-laid c =
    let f = c.in_ok-f.f in
    c.runs.ensures ∙ sym (rw (sym c.in_ok-f.ensures, f.formed))
