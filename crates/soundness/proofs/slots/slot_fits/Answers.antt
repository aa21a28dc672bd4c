use mathlib.Core.Path.{sym}
use borrow.Author.Tests.{eq-eqb, ne_eqb}
use Rattle.soundness.proofs.StateBytes.{free-byte}
use Rattle.soundness.proofs.slots.slot_fits.Goals as goal

pub returns-then-state-eq-FREE : goal.returns-then-state-eq-FREE
returns-then-state-eq-FREE c = sym (rw (free-byte c.args.state, eq-eqb c.args.state 0 c.if-state-eq-FREE.true))

pub returns : goal.returns
returns c = sym (rw (free-byte c.args.state, ne_eqb c.args.state 0 c.if-state-eq-FREE.false))
