use Rattle.layout.proofs.Readers.{used-tells}
use Rattle.layout.proofs.fields.is_used.Goals as goal

pub returns : goal.returns
returns c = used-tells c.args.bytes.now c.args.s.number c.args.s.below
