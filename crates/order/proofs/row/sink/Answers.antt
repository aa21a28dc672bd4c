-- What is done, joined with the row that is left, is the row with p moved on. Assumes nothing.
use Rattle.order.proofs.Moves.{sink-end, sink-on, sink-start, sink-stop}
use borrow.Author.Rules.{rules}
use Rattle.order.proofs.row.sink.Goals as goal

pub loop-j-init : goal.loop-j-init
loop-j-init c = (search rules, search rules, sink-start _ _ _ _)

pub returns-then-passes : goal.returns-then-passes
returns-then-passes c =
    sink-stop _ _ _ _ _ _ c.loop-j.invariant.2 _ (search rules) _ _ c.place-y.ensures c.passes.ensures c.if-passes.true c.put_place.ensures

pub loop-j-preserved : goal.loop-j-preserved
loop-j-preserved c =
    (search rules, search rules, sink-on _ _ _ _ _ _ c.loop-j.invariant.2 _ (search rules) _ _ c.place-y.ensures c.passes.ensures c.if-passes.false c.put_place-in-loop-j.ensures)

pub returns : goal.returns
returns c = sink-end _ _ _ _ _ _ c.loop-j.invariant.2 _ (search rules) (search rules) c.put_place-2.ensures
