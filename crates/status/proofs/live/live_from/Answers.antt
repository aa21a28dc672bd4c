-- The first number from p on whose state byte isn't that of a free slot. Assumes nothing.
use Rattle.std.proofs.Common.{refl, rules, tests, ◌+◌}
use lib.ListN.{get_or}
use Rattle.layout.specs.Offsets.{states_at}
use Rattle.std.proofs.lemmas.Iterator.{YieldsList-from_range}
use Rattle.std.proofs.lemmas.Iterator.Search.{find_from_yields_List}
use Rattle.status.proofs.LiveLaws.{finds, finds-below, taken}
use Rattle.status.proofs.live.live_from.Goals as goal

pub returns : goal.returns
returns c =
    let ran = find_from_yields_List (λ q. taken (get_or c.args.bytes.now (states_at + q) 0)) _ _ c.find.result c.find.ensures.ran (YieldsList-from_range _ _ _ refl refl) (λ x b q k. search (rules, tests)) in
    record { below = finds-below c.args.bytes.now c.args.p _ ran; told = finds c.args.bytes.now c.args.p _ ran }
