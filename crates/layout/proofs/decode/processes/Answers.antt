use Rattle.std.proofs.Common.{rules}
use Rattle.tables.specs.Readers.{free_slot}
use Rattle.lists.proofs.Made.{listed-made}
use Rattle.layout.specs.Bytes.{process_at}
use Rattle.layout.proofs.decode.processes.Goals as goal

pub returns : goal.returns
returns c = listed-made (process_at c.args.bytes.now) free_slot (λ i x t h. search rules) c.from_fn.ensures.items
