use Prim.Native.Nat.{◌*◌}
use Rattle.queues.specs.Squeeze.{Squeezed, lane_limit}
use Rattle.queues.proofs.squeeze.smalls.Given as goal

abbrev pub invariant-loop-j : goal.invariant-loop-j
invariant-loop-j l = Squeezed l.bytes l.from (l.j * lane_limit) l.x
