use Rattle.layout.proofs.Writers.{used-turns}
use Rattle.layout.proofs.Readers.{bool-byte}
use Rattle.layout.proofs.fields.put_used.Goals as goal

pub returns : goal.returns
returns c = λ h. rw (c.from.ensures, bool-byte c.args.used) (used-turns _ _ _ h)
