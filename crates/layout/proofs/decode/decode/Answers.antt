use Rattle.layout.specs.Bytes.{from_bytes}
use Rattle.layout.proofs.decode.decode.Goals as goal

pub returns : goal.returns
unfolding from_bytes
returns c = rw (c.processes.ensures, c.semaphores.ensures, c.row.ensures)
