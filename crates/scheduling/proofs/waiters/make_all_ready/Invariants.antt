use Rattle.scheduling.proofs.WaiterLaws.{Frees}
use Rattle.scheduling.proofs.waiters.make_all_ready.Given as goal

abbrev pub invariant-loop-q : goal.invariant-loop-q
invariant-loop-q l = Frees l.fn.ps l.initial.bytes l.q-index l.bytes
