use Rattle.std.proofs.Common.{rules}
use Rattle.order.proofs.Found.{row-tells}
use Rattle.order.proofs.row.row.Goals as goal

pub returns : goal.returns
returns c = row-tells c.args.bytes.now (search rules)
