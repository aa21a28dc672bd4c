use Rattle.layout.proofs.Readers.{process-tells}
use Rattle.layout.proofs.fields.process.Goals as goal

pub returns : goal.returns
returns c = λ h. rw c.process_at.ensures (process-tells _ _ h)
