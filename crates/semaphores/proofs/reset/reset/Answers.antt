-- The count is checked first, then the semaphore. Assumes nothing.
use mir.Syntax.{w32}
use mir.ValLaws.{to_z-of_z}
use Rattle.arguments.proofs.CountLaws.{below-tested}
use Rattle.semaphores.proofs.ReleaseLaws.{reset-3, reset-refused, reset-releases}
use Rattle.semaphores.proofs.TargetLaws.{chosen}
use Rattle.std.specs.Prelude.{Err, Ok}
use Rattle.semaphores.proofs.reset.reset.Goals as goal

pub returns-then-b-lt0 : goal.returns-then-b-lt0
returns-then-b-lt0 c = reset-3 c.args.a c.args.b _ (below-tested c.args.b c.ranges.b _ c.if-b-lt0.true)

pub returns-in_err-s : goal.returns-in_err-s
returns-in_err-s c =
    let h = below-tested c.args.b c.ranges.b _ c.if-b-lt0.false in
    reset-refused c.args.a _ _ (chosen c.args.a c.ranges.a _ (Err _) c.in_err-s.ensures) c.args.b h _ c.from_residual.ensures.1

pub returns : goal.returns
returns c =
    let h = below-tested c.args.b c.ranges.b _ c.if-b-lt0.false in
    reset-releases c.args.a c.in_ok-s.s _ _ _ (chosen c.args.a c.ranges.a _ (Ok c.in_ok-s.s) c.in_ok-s.ensures) c.args.b h (rw (to_z-of_z w32 c.args.b c.ranges.b) at c.release.ensures)
