use Prim.Native.Nat.{◌-◌, ◌<◌}
use mathlib.Core.Path.{◌≡◌}
use lib.ListN.{length}
use Rattle.layout.specs.Offsets.{size}
use Rattle.tables.specs.Limits.{process_limit}
use Rattle.order.proofs.Moves.{Sinks}
use Rattle.order.proofs.row.sink.Given as goal

abbrev pub invariant-loop-j : goal.invariant-loop-j
invariant-loop-j l = (length l.bytes ≡ size) × (l.j < process_limit) × Sinks l.level l.p l.i l.initial.bytes l.j l.bytes

abbrev pub decreases-loop-j : goal.decreases-loop-j
decreases-loop-j l = process_limit - l.j
