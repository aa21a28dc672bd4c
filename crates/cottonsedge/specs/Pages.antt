-- The status page: what is answered, and every row that is left, of any bytes and any rows that are lent.
use Rattle.std.specs.Prelude.{if◌then◌else◌, ℕ, ltb, pos, drop, length, List, ◌++◌, ◌≡◌}
use Rattle.tables.specs.Readers.{live}
use Rattle.layout.specs.Bytes.{from_bytes}
use Rattle.soundness.specs.Good.{current_byte, good}
use Rattle.rules.specs.declared.Answer.{Answer}
use Rattle.rules.specs.declared.Answer.TheVariants.{Done, Refused}
use Rattle.status.specs.declared.Row.{Row}
use Rattle.status.specs.Rows.{rows}
use Rattle.cottonsedge.specs.Fields.{packed}

-- 15 first, then 16 if fewer rows are lent than there are live processes; else the number of rows, one for each
unfoldable pub page_answer : List ℕ → ℕ → Answer
page_answer bs lent =
    let many : ℕ = length (live (from_bytes bs)) in
    if good bs then (if ltb lent many then Refused 16 else Done (pos many)) else Refused 15

-- as one number, with the process that is current; 255 where nobody is known to be
abbrev pub page_number : List ℕ → ℕ → ℕ
page_number bs lent = packed (page_answer bs lent) (current_byte bs)

-- the rows that are left: those shown, and behind them what was lent; at a refusal all as it was lent
abbrev pub left_by : Answer → List Row → List Row → List Row
left_by (Done v) shown lent = shown ++ drop (length shown) lent
left_by (Refused n) shown lent = lent

unfoldable pub rows_after : List ℕ → List Row → List Row
rows_after bs lent = left_by (page_answer bs (length lent)) (rows (from_bytes bs)) lent

-- the answer r and the rows that are left, as the page has to have them: of all that is lent they are these and no others
pub record Paged (bs : List ℕ) (lent : List Row) (r : ℕ) (after : List Row) : Type 0 where
  pub answer : r ≡ page_number bs (length lent)
  pub rows : after ≡ rows_after bs lent
