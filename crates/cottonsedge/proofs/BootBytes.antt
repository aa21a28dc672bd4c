-- The bytes that boot writes are those of the boot tables. Assumes nothing.
use Rattle.std.proofs.Common.{ℕ, ◌≡◌, List, length, set, replicate, refl}
use borrow.Rule.Slice.PartMut.{put_mid}
use borrow.Author.Tests.{eq-eqb}
use Rattle.lists.specs.Numbers.{count_up, listed}
use Rattle.tables.specs.Boot.{boot}
use Rattle.tables.specs.Limits.{process_limit}
use Rattle.layout.specs.Bytes.{to_bytes}
use Rattle.layout.specs.Offsets.{next_process_at, order_at, size, states_at}
use Rattle.cottonsedge.specs.Entries.{booted}

-- all computed
laid : set (put_mid order_at process_limit (set (replicate size 0) states_at 1) (count_up 0 process_limit)) next_process_at 1 ≡ to_bytes boot
unfolding boot to_bytes listed
laid = refl

-- free but for the first byte, then the row, then the cursor
pub boot-laid : (free row : List ℕ) → free ≡ replicate size 0 → row ≡ count_up 0 process_limit → set (put_mid order_at process_limit (set free states_at 1) row) next_process_at 1 ≡ to_bytes boot
boot-laid free row e f = rw (e, f) laid

-- what boot leaves where the length is right
pub boot-bytes : (bs : List ℕ) → length bs ≡ size → booted bs ≡ to_bytes boot
unfolding booted
boot-bytes bs l = rw (eq-eqb (length bs) size l)
