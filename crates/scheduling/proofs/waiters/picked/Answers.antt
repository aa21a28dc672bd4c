use mathlib.Core.Path.{◌∙◌, ap}
use borrow.Author.Rules.{rules}
use Rattle.std.specs.Prelude.{None}
use Rattle.layout.specs.Stands.{Tells}
use Rattle.lists.proofs.Made.{listed-made}
use Rattle.scheduling.specs.Waiters.{marked, numbers}
use Rattle.scheduling.proofs.WaiterLaws.{picked-line}
use Rattle.scheduling.proofs.waiters.picked.Goals as goal

pub returns : goal.returns
unfolding Tells
returns c = λ t st. ap numbers (listed-made (marked t c.args.b) None (λ i x u h. search rules) c.from_fn.ensures.items) ∙ picked-line t c.args.bytes.now st c.args.b
