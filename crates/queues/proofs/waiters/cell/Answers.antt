use mathlib.Core.Path.{sym}
use borrow.Author.Tests.{le-ltb, lt-ltb}
use borrow.Author.Rules.{rules}
use Rattle.queues.proofs.waiters.cell.Goals as goal

pub returns-then-state-lt-WAITING : goal.returns-then-state-lt-WAITING
returns-then-state-lt-WAITING c = (search rules, sym (rw (lt-ltb c.args.state 4 c.if-state-lt-WAITING.true)))

pub returns : goal.returns
returns c = (search rules, sym (rw (le-ltb c.args.state 4 c.if-state-lt-WAITING.false)))
