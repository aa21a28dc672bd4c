use Rattle.order.specs.Row.{has_state}
use Rattle.order.proofs.Found.{CountsTo}
use Rattle.order.proofs.row.place_among.Given as goal

abbrev pub invariant-loop-q : goal.invariant-loop-q
invariant-loop-q l = CountsTo (has_state l.bytes l.b) l.p l.q-items l.q-index l.n
