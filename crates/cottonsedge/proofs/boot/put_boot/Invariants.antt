use Rattle.std.proofs.Common.{◌≡◌, length, take}
use Rattle.lists.specs.Numbers.{count_up}
use Rattle.tables.specs.Limits.{process_limit}
use Rattle.cottonsedge.proofs.boot.put_boot.Given as goal

abbrev pub invariant-loop-i : goal.invariant-loop-i
invariant-loop-i l = (length l.place-items ≡ process_limit) × (take l.i l.place-items ≡ take l.i (count_up 0 process_limit))
