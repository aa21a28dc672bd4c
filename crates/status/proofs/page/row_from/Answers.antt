-- Well-formed bytes stand for tables, and the row is one of those. Assumes nothing.
use Rattle.std.proofs.Common.{rules}
use Rattle.status.proofs.RowLaws.{row-from-is}
use Rattle.status.proofs.page.row_from.Goals as goal

pub returns : goal.returns
returns c =
    row-from-is c.args.bytes.now c.args.p _ _ _ (λ i. search rules) c.requires c.live_from.ensures.below c.live_from.ensures.told c.unwrap_or.ensures c.row_of.ensures
