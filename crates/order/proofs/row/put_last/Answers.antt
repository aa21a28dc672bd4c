use Rattle.order.proofs.Moves.{moved-last}
use Rattle.order.proofs.row.put_last.Goals as goal

pub returns : goal.returns
returns c = moved-last _ _ _ c.reposition.ensures
