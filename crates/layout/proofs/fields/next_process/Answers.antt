use Rattle.layout.proofs.Readers.{next-process-tells}
use Rattle.layout.proofs.fields.next_process.Goals as goal

pub returns : goal.returns
returns c = next-process-tells c.args.bytes.now
