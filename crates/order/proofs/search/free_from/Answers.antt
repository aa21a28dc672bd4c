use Rattle.std.proofs.Common.{refl, rules, tests}
use lib.Dec.{eqb}
use lib.ListN.{get_or}
use Rattle.std.proofs.lemmas.Iterator.{YieldsList-from_range}
use Rattle.std.proofs.lemmas.Iterator.Search.{find_from_yields_List}
use Rattle.order.proofs.SearchLaws.{searched}
use Rattle.order.proofs.search.free_from.Goals as goal

pub returns : goal.returns
returns c = searched _ _ _ (find_from_yields_List (λ i. eqb (get_or c.args.entries.now i 0) 0) _ _ c.find.result c.find.ensures.ran (YieldsList-from_range _ _ _ refl refl) (λ x b q k. search (rules, tests)))
