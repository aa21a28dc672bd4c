use Rattle.std.proofs.Common.{rules, tests}
use Rattle.std.proofs.lemmas.Iterator.{YieldsList-from_slice}
use Rattle.std.proofs.lemmas.Iterator.Search.{find_from_yields_List}
use Rattle.std.proofs.lemmas.Iterator.Consumers.{YieldsList-at, YieldsList-from_copied}
use Rattle.order.specs.Row.{has_state}
use Rattle.order.proofs.Found.{find-tells}
use Rattle.order.proofs.row.find.Goals as goal

pub returns : goal.returns
returns c =
    find-tells c.args.b c.args.bytes.now _ c.row.ensures.1 _
    (find_from_yields_List (has_state c.args.bytes.now c.args.b) _ _ c.find.result c.find.ensures.ran (YieldsList-from_copied (YieldsList-at c.copied.ensures.source (YieldsList-from_slice _ c.iter.ensures.rest))) (λ x b q k. search (rules, tests)))
