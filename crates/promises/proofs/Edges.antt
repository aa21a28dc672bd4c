-- Every line of the table of edges holds: computed from the rules. Assumes nothing.
use mathlib.Core.Path.{◌≡◌, refl}
use Rattle.lists.specs.Lists.{Each, filter, take_out, put_before, place, times, is_empty, first_or}
use Rattle.lists.specs.Numbers.{listed, round_from}
use Rattle.tables.specs.Readers.{line}
use Rattle.tables.specs.Boot.{boot}
use Rattle.rules.specs.Schedule.{joining, make_all_ready, start_first, switch, reschedule}
use Rattle.rules.specs.Calls.{step}
use Rattle.rules.specs.Enter.{numbered}
use Rattle.promises.specs.Record.{after}
use Rattle.promises.specs.Edges.{edges, sight_of}

pub edges-hold : Each (λ e. sight_of e ≡ e.sight) edges
unfolding after numbered step boot filter take_out put_before place times is_empty first_or listed round_from line joining make_all_ready start_first switch reschedule
edges-hold = (refl, (refl, (refl, (refl, (refl, (refl, (refl, (refl, (refl, (refl, (refl, (refl, (refl, (refl, (refl, (refl, (refl, (refl, (refl, (refl, (refl, (refl, (refl, (refl, (refl, (refl, tt))))))))))))))))))))))))))
