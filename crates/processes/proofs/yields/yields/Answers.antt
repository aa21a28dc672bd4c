use Rattle.processes.proofs.ProcessLaws.{yield-follows}
use Rattle.processes.proofs.yields.yields.Goals as goal

pub returns : goal.returns
returns c = yield-follows _
