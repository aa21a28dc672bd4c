-- By whether anybody waits. Assumes nothing.
use Rattle.semaphores.proofs.ReleaseLaws.{release-none, release-some}
use Rattle.semaphores.proofs.release.release.Goals as goal

pub returns-then-is_none : goal.returns-then-is_none
returns-then-is_none c = release-none _ c.args.entry c.args.s.below _ _ c.find.ensures _ c.put_semaphore.ensures c.if-is_none.ensures

pub returns : goal.returns
returns c =
    release-some _ c.args.entry c.args.s.below _ _ c.find.ensures _ c.put_semaphore-2.ensures c.picked-ps.result _ c.if-is_none.ensures c.picked-ps.ensures c.make_all_ready.ensures
