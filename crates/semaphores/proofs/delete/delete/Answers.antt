-- The first two checks, then the release of all waiters. Assumes nothing.
use mathlib.Core.Path.{refl}
use Rattle.rules.specs.declared.Call.TheVariants.{Delete}
use Rattle.semaphores.proofs.ReleaseLaws.{delete-releases}
use Rattle.std.specs.Prelude.{Ok}
use Rattle.semaphores.proofs.TargetLaws.{chosen, semaphore-refused}
use Rattle.semaphores.proofs.delete.delete.Goals as goal

pub returns-in_err-s : goal.returns-in_err-s
returns-in_err-s c = semaphore-refused _ c.ranges.a _ _ _ c.from_residual.ensures.1 c.in_err-s.ensures (Delete c.args.a) (λ t. refl)

pub returns : goal.returns
returns c = delete-releases c.args.a c.in_ok-s.s _ _ _ (chosen c.args.a c.ranges.a _ (Ok c.in_ok-s.s) c.in_ok-s.ensures) c.release.ensures
