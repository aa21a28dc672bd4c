use mathlib.Core.Path.{sym}
use Rattle.soundness.proofs.StateBytes.{current-byte, ready-byte}
use Rattle.soundness.proofs.slots.null_fits.Goals as goal

pub returns : goal.returns
returns c = sym (rw (current-byte c.args.state, ready-byte c.args.state))
