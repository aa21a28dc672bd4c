use Rattle.arguments.proofs.IndexLaws.{passed}
use Rattle.semaphores.proofs.TargetLaws.{unused-refused}
use Rattle.semaphores.proofs.target.used_semaphore.Goals as goal

pub returns-else-is_used : goal.returns-else-is_used
returns-else-is_used c =
    unused-refused c.args.a _ _ _ (passed _ _ _ _ c.ranges.a c.index_below.ensures c.in_ok-number.ensures.ok_part) c.is_used.ensures c.if-is_used.false
