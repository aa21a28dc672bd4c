use Prim.Native.Nat.{◌-◌, ◌<◌}
use mathlib.Core.Path.{◌≡◌}
use lib.ListN.{length}
use Rattle.layout.specs.Offsets.{size}
use Rattle.tables.specs.Limits.{process_limit}
use Rattle.order.proofs.Moves.{Rises}
use Rattle.order.proofs.row.rise.Given as goal

abbrev pub invariant-loop-j : goal.invariant-loop-j
invariant-loop-j l = (length l.bytes ≡ size) × (l.j < process_limit) × Rises l.p l.i l.initial.bytes l.j l.carry l.bytes

abbrev pub decreases-loop-j : goal.decreases-loop-j
decreases-loop-j l = process_limit - l.j
