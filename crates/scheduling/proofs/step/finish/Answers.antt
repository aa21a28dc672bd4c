use mir.Syntax.{w32}
use mir.ValLaws.{to_z-of_z}
use Rattle.scheduling.proofs.StepLaws.{end-done, end_refused, end-switches}
use borrow.Author.Rules.{rules}
use Rattle.scheduling.proofs.step.finish.Goals as goal

pub returns-in-Err : goal.returns-in-Err
returns-in-Err c = end_refused _ _ _ _ c.in-Err.is

pub returns-in-Ok-Done : goal.returns-in-Ok-Done
returns-in-Ok-Done c = end-done _ _ _ _ _ _ c.in-Ok-Done.is (to_z-of_z w32 _ (search rules)) (rw c.in-Ok-Done.is at c.in-Ok-Done.field-0-is)

pub returns-in-Ok-Switches : goal.returns-in-Ok-Switches
returns-in-Ok-Switches c =
    end-switches _ _ _ _ _ _ c.in-Ok-Switches.is (to_z-of_z w32 _ (search rules)) _ _ (rw c.in-Ok-Switches.is at c.in-Ok-Switches.field-0-is) c.reschedule-running.ensures
