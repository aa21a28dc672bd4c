-- Each turn reads, feeds and writes some more; the end is at no byte or a failed read. Assumes nothing.
use Rattle.std.proofs.Common.{sym, ◌∙◌}
use Rattle.bench.proofs.Turns.{answered-none, answered-more, answered-still, answered-all, read-consumes, on_ok}
use Rattle.bench.proofs.serve.Goals as goal
use Rattle.bench.proofs.serve.Goals.{else-loop-test, then-loop-test+then-n-eq0}

pub loop-init : goal.loop-init
loop-init g c = rw c.new-part.ensures (answered-none _ _ _)

pub loop-preserved : goal.loop-preserved
loop-preserved g c =
    let turn = c.in_ok-part.ensures in
    answered-more _ c.loop.invariant (rw c.unwrap_or-n.ensures (read-consumes _ _ c.read.result c.read.new.buf c.read.ensures.bytes)) turn.wrote turn.held

pub returns : goal.returns
returns g c =
    on_ok c.answer_end.result
    (answered-all _ (elim c.loop-test.branch [
      | else-loop-test w ↦ rw w.input-is c.loop.invariant
      | then-loop-test+then-n-eq0 w ↦ rw w.input-is (answered-still c.loop.invariant (rw (sym w.unwrap_or-n.ensures ∙ w.if-n-eq0.true) at (read-consumes _ _ w.read.result w.read.new.buf w.read.ensures.bytes)))
    ]))
    c.answer_end.ensures
