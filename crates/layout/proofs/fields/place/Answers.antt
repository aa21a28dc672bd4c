use Rattle.layout.proofs.Readers.{place-tells}
use Rattle.layout.proofs.fields.place.Goals as goal

pub returns : goal.returns
returns c = place-tells c.args.bytes.now c.args.i c.requires
