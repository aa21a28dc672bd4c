use Rattle.std.proofs.Common.{rules}
use Rattle.lists.proofs.Made.{listed-made}
use Rattle.layout.specs.Bytes.{place_at}
use Rattle.layout.proofs.decode.row.Goals as goal

pub returns : goal.returns
returns c = listed-made (place_at c.args.bytes.now) 0 (λ i x t h. search rules) c.from_fn.ensures.items
