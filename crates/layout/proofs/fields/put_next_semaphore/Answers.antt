use Rattle.layout.proofs.Writers.{next-semaphore-turns}
use Rattle.layout.proofs.fields.put_next_semaphore.Goals as goal

pub returns : goal.returns
returns c = next-semaphore-turns _ _
