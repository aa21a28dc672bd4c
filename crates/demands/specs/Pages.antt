-- The status page, of the bytes and the rows that are lent, the number that is answered and the rows that are left.
use Rattle.std.specs.Prelude.{ℕ, ◌<◌, List, [], ◌∷◌, ◌≢◌, ◌≡◌, drop, length, take}
use Rattle.tables.specs.Readers.{live}
use Rattle.layout.specs.Bytes.{from_bytes}
use Rattle.soundness.specs.Good.{current_byte}
use Rattle.telling.specs.Reasons.{Reason, ◌given◌}
use Rattle.status.specs.declared.Row.{Row}
use Rattle.status.specs.Rows.{rows}
use Rattle.cottonsedge.specs.Fields.{answer_end, refusal_field, value_field, process_field}
use Rattle.cottonsedge.specs.Pages.{Paged}
use Rattle.demands.specs.Demands.{not_good}

-- what the page gives: the answer, and the rows that it leaves
pub record PageResult : Type 0 where
  pub answer : ℕ
  pub rows : List Row

-- the contract of `cottonsedge_rows` allows this
abbrev pub PageAllowed : List ℕ → List Row → PageResult → Type 0
PageAllowed bs lent x = Paged bs lent x.answer x.rows

-- the rows that were written: as many as the value says
abbrev pub shown_by : PageResult → List Row
shown_by x = take (value_field x.answer) x.rows

-- what the answer says
pub record PageTold (bs : List ℕ) (lent : List Row) (x : PageResult) : Type 0 where
  -- it stands in the low 48 bits, the rest 0
  pub small : x.answer < answer_end
  -- a refusal has value -1, and no row is written
  pub refused : refusal_field x.answer ≢ 0 → (value_field x.answer ≡ 0xffffffff) × (x.rows ≡ lent)
  -- else the value is the number of live processes
  pub value : refusal_field x.answer ≡ 0 → value_field x.answer ≡ length (live (from_bytes bs))
  -- their rows are written, and the rows past the last keep what they held
  pub shown : refusal_field x.answer ≡ 0 → shown_by x ≡ rows (from_bytes bs)
  pub behind : refusal_field x.answer ≡ 0 → drop (value_field x.answer) x.rows ≡ drop (value_field x.answer) lent
  -- the process told is the one that is current, and 255 with 15
  pub process : process_field x.answer ≡ current_byte bs

-- 16: fewer rows are lent than there are live processes
abbrev pub few_rows : List ℕ → List Row → Reason
few_rows bs lent = 16 given length lent < length (live (from_bytes bs))

-- 15 stands before it
abbrev pub reasons_of_page : List ℕ → List Row → List Reason
reasons_of_page bs lent = not_good bs ∷ few_rows bs lent ∷ []
