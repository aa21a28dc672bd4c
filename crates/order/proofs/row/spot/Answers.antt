-- The search ends where the move begins. Assumes nothing.
use Rattle.std.proofs.Common.{◌||◌, arith, rules, tests}
use lib.Dec.{eqb}
use Rattle.std.proofs.lemmas.Iterator.{YieldsList-from_slice}
use Rattle.std.proofs.lemmas.Iterator.Search.{position_from_yields_List}
use Rattle.std.proofs.lemmas.List.{length-take}
use Rattle.layout.specs.Bytes.{process_at}
use Rattle.order.specs.Row.{low}
use Rattle.order.proofs.Moves.{spot-spotted}
use Rattle.order.proofs.row.spot.Goals as goal

pub slice_bounds-iter-end : goal.slice_bounds-iter-end
slice_bounds-iter-end c = omega (arith, length-take 31 c.row.result.now, c.row.ensures.0)

pub returns : goal.returns
returns c =
    let found = position_from_yields_List (λ q. eqb q c.args.p || low c.args.level (process_at c.args.bytes.now q)) _ _ c.position.result c.position.ensures.ran (YieldsList-from_slice _ c.iter.ensures.rest) (λ x b q k. search (rules, tests)) in
    spot-spotted _ _ _ _ _ _ c.row.ensures.1 c.row.ensures.0 found c.unwrap_or.ensures
