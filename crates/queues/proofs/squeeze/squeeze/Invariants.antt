use Rattle.queues.specs.Squeeze.{Squeezed}
use Rattle.queues.proofs.squeeze.squeeze.Given as goal

abbrev pub invariant-loop-s : goal.invariant-loop-s
invariant-loop-s l = Squeezed l.bytes l.from l.s l.x
