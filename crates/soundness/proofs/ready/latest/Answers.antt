use mathlib.Core.Path.{sym}
use borrow.Author.Tests.{eq-eqb, ne_eqb}
use Rattle.soundness.proofs.ready.latest.Goals as goal

pub returns-then-v-eq0 : goal.returns-then-v-eq0
returns-then-v-eq0 c = sym (rw (eq-eqb c.args.v 0 c.if-v-eq0.true))

pub returns : goal.returns
returns c = sym (rw (ne_eqb c.args.v 0 c.if-v-eq0.false))
