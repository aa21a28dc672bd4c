use Prim.Native.Nat.{◌≤◌}
use mathlib.Core.Bool.{true}
use mathlib.Core.Path.{◌≡◌}
use Rattle.layout.specs.Bytes.{from_bytes, well_formed}
use Rattle.queues.specs.Tallies.{Tallied, half_limit}
use Rattle.queues.proofs.waiters.tally.Given as goal

abbrev pub invariant-loop-i : goal.invariant-loop-i
invariant-loop-i l = (l.i ≤ half_limit) × Tallied (from_bytes l.bytes) 0 l.i l.many × Tallied (from_bytes l.bytes) half_limit l.i l.more × (well_formed l.bytes ≡ true)
