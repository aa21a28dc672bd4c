use Rattle.layout.proofs.Writers.{state-turns}
use Rattle.layout.proofs.fields.put_state.Goals as goal

pub returns : goal.returns
returns c = λ h. rw c.state_byte.ensures (state-turns _ _ _ h c.requires)
