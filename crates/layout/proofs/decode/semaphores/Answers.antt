use Rattle.std.proofs.Common.{rules}
use Rattle.tables.specs.Readers.{free_semaphore}
use Rattle.lists.proofs.Made.{listed-made}
use Rattle.layout.specs.Bytes.{semaphore_at}
use Rattle.layout.proofs.decode.semaphores.Goals as goal

pub returns : goal.returns
returns c = listed-made (semaphore_at c.args.bytes.now) free_semaphore (λ i x t h. search rules) c.from_fn.ensures.items
