use mathlib.Core.Path.{sym}
use borrow.Author.Tests.{eq-eqb, ne_eqb}
use Rattle.soundness.proofs.ready.key.Goals as goal

pub returns-then-state-eq-READY : goal.returns-then-state-eq-READY
returns-then-state-eq-READY c = sym (rw (eq-eqb c.args.state 2 c.if-state-eq-READY.true))

pub returns : goal.returns
returns c = sym (rw (ne_eqb c.args.state 2 c.if-state-eq-READY.false))
