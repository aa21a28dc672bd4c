use Rattle.layout.proofs.Writers.{next-process-turns}
use Rattle.layout.proofs.fields.put_next_process.Goals as goal

pub returns : goal.returns
returns c = next-process-turns _ _
