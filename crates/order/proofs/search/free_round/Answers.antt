use Rattle.std.proofs.Common.{rules}
use Rattle.order.proofs.SearchLaws.{round}
use Rattle.order.proofs.search.free_round.Goals as goal

pub returns : goal.returns
returns c = round _ _ _ _ c.free_from.ensures (search rules)
