-- The first two checks, then the count as it is read. Assumes nothing.
use mathlib.Core.Path.{refl}
use mir.Syntax.{w32}
use mir.ValLaws.{to_z-of_z}
use Rattle.rules.specs.declared.Call.TheVariants.{Count}
use Rattle.std.specs.Prelude.{Ok}
use Rattle.semaphores.proofs.TargetLaws.{chosen, count-told, semaphore-refused}
use Rattle.layout.proofs.Compose.{told-as}
use Rattle.semaphores.proofs.count.count_of.Goals as goal

pub returns-in_err-s : goal.returns-in_err-s
returns-in_err-s c = semaphore-refused _ c.ranges.a _ _ _ c.from_residual.ensures.1 c.in_err-s.ensures (Count c.args.a) (λ t. refl)

pub returns : goal.returns
returns c =
    count-told c.args.a c.in_ok-s.s _ _ (chosen c.args.a c.ranges.a _ (Ok c.in_ok-s.s) c.in_ok-s.ensures) (told-as _ _ _ _ (to_z-of_z w32 _ (record { sfits = c.count.type_inv })) c.count.ensures)
