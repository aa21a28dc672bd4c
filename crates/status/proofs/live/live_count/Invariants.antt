use Rattle.status.proofs.LiveLaws.{CountsTaken}
use Rattle.status.proofs.live.live_count.Given as goal

abbrev pub invariant-loop-b : goal.invariant-loop-b
invariant-loop-b l = CountsTaken l.b-items l.b-index l.many
