use Rattle.layout.proofs.Writers.{process-turns}
use Rattle.layout.proofs.fields.put_process.Goals as goal

pub returns : goal.returns
returns c = λ h. rw c.state_byte.ensures (process-turns _ _ c.args.entry h c.requires)
