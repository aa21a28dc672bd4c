use Prim.Native.Nat.{◌+◌}
use mathlib.Core.Path.{◌≡◌}
use Rattle.layout.specs.Bytes.{from_bytes}
use Rattle.tables.specs.Limits.{process_limit}
use Rattle.tables.specs.States.{is_current}
use Rattle.soundness.specs.Sums.{sum_below}
use Rattle.soundness.proofs.running.weight.Given as goal

abbrev pub invariant-loop-i : goal.invariant-loop-i
invariant-loop-i l = (l.sum ≡ sum_below (from_bytes l.bytes) is_current (λ p. process_limit + p) l.i)
