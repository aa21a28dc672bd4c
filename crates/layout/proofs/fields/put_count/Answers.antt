use mir.Syntax.{w32}
use mir.ValLaws.{to_z-of_z}
use Rattle.layout.proofs.Writers.{count-turns}
use Rattle.layout.proofs.fields.put_count.Goals as goal

pub returns : goal.returns
returns c =
    let f = c.ranges.count in
    rw (c.put_count_at.ensures, to_z-of_z w32 _ f) (count-turns _ _ _ c.args.s.below f)
