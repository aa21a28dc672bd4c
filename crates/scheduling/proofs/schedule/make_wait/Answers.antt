use Rattle.scheduling.proofs.ScheduleLaws.{wait-turns}
use Rattle.scheduling.proofs.schedule.make_wait.Goals as goal

pub returns : goal.returns
returns c = wait-turns _ _ _ _ _ c.put_last.ensures c.put_state.ensures
