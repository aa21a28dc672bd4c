-- What is done, joined with the row that is left, is the row with p put in. Assumes nothing.
use Rattle.order.proofs.Moves.{rise-end, rise-on, rise-start, rise-stop}
use borrow.Author.Rules.{rules}
use Rattle.order.proofs.row.rise.Goals as goal

pub loop-j-init : goal.loop-j-init
loop-j-init c = (search rules, search rules, rise-start _ _ _)

pub returns-then-x-p : goal.returns-then-x-p
returns-then-x-p c =
    rise-stop _ _ _ _ _ _ c.loop-j.invariant.2 _ c.put_place.ensures (search rules) _ c.place-x.ensures c.if-x-p.true

pub loop-j-preserved : goal.loop-j-preserved
loop-j-preserved c =
    (search rules, search rules, rise-on _ _ _ _ _ _ c.loop-j.invariant.2 _ c.put_place.ensures (search rules) _ c.place-x.ensures c.if-x-p.false)

pub returns : goal.returns
returns c = rise-end _ _ _ _ _ _ c.loop-j.invariant.2 _ (search rules) (search rules) c.put_place-2.ensures
