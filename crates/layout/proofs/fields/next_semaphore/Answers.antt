use Rattle.layout.proofs.Readers.{next-semaphore-tells}
use Rattle.layout.proofs.fields.next_semaphore.Goals as goal

pub returns : goal.returns
returns c = next-semaphore-tells c.args.bytes.now
