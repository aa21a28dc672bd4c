-- What is seen at a line of the table of edges, of the bytes and of the number that is answered.
use Rattle.std.specs.Prelude.{ℕ, List, reverse}
use Rattle.std.specs.Int.{w32}
use Rattle.std.proofs.Common.{to_z}
use Rattle.tables.specs.declared.Tables.{Tables}
use Rattle.tables.specs.Readers.{current_of}
use Rattle.layout.specs.Bytes.{from_bytes}
use Rattle.rules.specs.Seen.{seen}
use Rattle.promises.specs.Record.{Request}
use Rattle.promises.specs.Edges.{Sight, Edge}
use Rattle.cottonsedge.specs.Fields.{refusal_field, value_field, process_field}
use Rattle.demands.specs.Demands.{Result, Kernel}
use Rattle.demands.specs.Sessions.{left, given}

-- where a kernel begins with these bytes
abbrev pub sight_of_bytes : Kernel → List ℕ → Edge → Sight
sight_of_bytes k start e =
    let before : List Request = reverse e.before in
    let t : Tables = from_bytes (left k start before) in
    let x : Result = given k start before e.request in
    record {
      caller = current_of t;
      was = seen t e.semaphore;
      refusal = refusal_field x.answer;
      value = to_z w32 (value_field x.answer);
      is = seen (from_bytes x.bytes) e.semaphore;
      running = process_field x.answer;
    }
