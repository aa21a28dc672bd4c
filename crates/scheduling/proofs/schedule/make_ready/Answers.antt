use Rattle.scheduling.proofs.ScheduleLaws.{ready-turns}
use Rattle.scheduling.proofs.schedule.make_ready.Goals as goal

pub returns : goal.returns
returns c =
    ready-turns _ _ _ _ _ c.process-x.ensures c.reposition.ensures c.put_state.ensures
