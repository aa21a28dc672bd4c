use Prim.Native.Nat.{◌-◌, ◌<◌}
use mathlib.Core.Path.{◌≡◌}
use Rattle.soundness.proofs.FallingBytes.{left}
use Rattle.soundness.proofs.ready.ready_falls.Given as goal

abbrev pub invariant-loop-place : goal.invariant-loop-place
invariant-loop-place l = (0 < l.last) × (left l.bytes (l.top - 1) 0 ≡ left l.bytes (l.last - 1) l.place-index)
