use Rattle.std.proofs.Common.{◌≡◌, length, take}
use Rattle.lists.specs.Numbers.{listed}
use Rattle.layout.specs.Bytes.{from_bytes}
use Rattle.status.proofs.LiveLaws.{next_of}
use Rattle.status.proofs.RowByRow.{row_at}
use Rattle.cottonsedge.proofs.rows.page_of.Given as goal

-- the rows before the index are written, and the next is looked for behind them
abbrev pub invariant-loop-row : goal.invariant-loop-row
invariant-loop-row l =
    (length l.row-items ≡ l.many) × (l.p ≡ next_of (from_bytes l.bytes) l.row-index)
    × (take l.row-index l.row-items ≡ take l.row-index (listed 0 l.many (row_at (from_bytes l.bytes))))
