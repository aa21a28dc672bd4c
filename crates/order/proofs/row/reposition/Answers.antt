use Rattle.order.proofs.Moves.{moved_down, moved_up}
use Rattle.order.proofs.row.reposition.Goals as goal

pub returns-then-place-p : goal.returns-then-place-p
returns-then-place-p c =
    moved_down _ _ _ _ _ _ c.spot-i.ensures.1 c.place.ensures c.if-place-p.true c.sink.ensures

pub returns-else-place-p : goal.returns-else-place-p
returns-else-place-p c =
    moved_up _ _ _ _ _ _ c.spot-i.ensures.1 c.place.ensures c.if-place-p.false c.rise.ensures
