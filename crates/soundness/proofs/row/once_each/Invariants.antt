use mathlib.Core.Path.{◌≡◌}
use lib.Dec.{ltb}
use lib.ListN.{take}
use Rattle.layout.specs.Bytes.{from_bytes}
use Rattle.lists.specs.Lists.{times}
use Rattle.tables.specs.Limits.{process_limit}
use Rattle.lists.proofs.Bits.{mask}
use Rattle.soundness.proofs.row.once_each.Given as goal

abbrev pub invariant-loop-place : goal.invariant-loop-place
invariant-loop-place l = (l.seen ≡ mask process_limit (λ p. ltb 0 (times p (take l.place-index (from_bytes l.bytes).order))))
