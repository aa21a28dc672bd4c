-- Those counted and those still to come are all. Assumes nothing.
use Rattle.std.proofs.Common.{rules}
use Rattle.status.proofs.LiveLaws.{counts, counts-on}
use Rattle.status.proofs.live.live_count.Goals as goal

pub loop-b-preserved : goal.loop-b-preserved
loop-b-preserved c = rw c.from-many.ensures (counts-on _ _ _ c.loop-b.invariant c.loop-b-test.true)

pub returns : goal.returns
returns c = counts c.args.bytes.now _ _ c.loop-b.invariant (search rules)
