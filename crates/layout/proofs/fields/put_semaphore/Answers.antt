use Rattle.std.proofs.Common.{rules}
use mir.Syntax.{w32}
use mir.Val.{SFits}
use mir.ValLaws.{to_z-of_z}
use Rattle.layout.proofs.Writers.{semaphore-turns}
use Rattle.layout.proofs.fields.put_semaphore.Goals as goal

pub returns : goal.returns
returns c =
    let x = c.args.entry in
    let f : SFits w32 x.count = search rules in
    let counted = rw (to_z-of_z w32 x.count f) at c.put_count.ensures in
    semaphore-turns _ x _ _ _ c.args.s.below (c.put_used.ensures c.args.s.below) counted
