use Rattle.scheduling.proofs.WaiterLaws.{mark-tells}
use borrow.Author.Rules.{rules}
use Rattle.scheduling.proofs.waiters.mark.Goals as goal

pub returns : goal.returns
returns c = mark-tells c.args.b _ _ _ (search rules) c.place-q.ensures _ c.then_some.ensures
