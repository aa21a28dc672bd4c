-- Only the row is not written out.
use Rattle.std.proofs.Common.{ap}
use Rattle.tables.specs.Boot.{boot}
use Rattle.tables.specs.Setters.{with_order}
use Rattle.tables.proofs.Tables.boot.Goals as goal

pub returns : goal.returns
unfolding boot
returns c = ap (with_order boot) c.rising.ensures
