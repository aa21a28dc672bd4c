-- What the exported entries answer, and every byte that they leave, of any bytes that are lent.
use Rattle.std.specs.Prelude.{if◌then◌else◌, ℕ, eqb, ℤ, length, List, ◌≡◌}
use Rattle.tables.specs.Boot.{boot}
use Rattle.tables.specs.Readers.{nobody}
use Rattle.layout.specs.Offsets.{size}
use Rattle.layout.specs.Bytes.{to_bytes, from_bytes, well_formed}
use Rattle.soundness.specs.Good.{good}
use Rattle.rules.specs.declared.Answer.TheVariants.{Refused}
use Rattle.rules.specs.declared.Reply.{Reply}
use Rattle.rules.specs.Enter.{enter}
use Rattle.cottonsedge.specs.Fields.{packed}

abbrev pub packed_reply : Reply → ℕ
packed_reply r = packed r.outcome.answer r.running

-- one call: what the rules answer of the tables that the bytes stand for; 15 if they stand for none
unfoldable pub answer_of : List ℕ → ℕ → ℤ → ℤ → ℕ
answer_of bs n a b = if well_formed bs then packed_reply (enter (from_bytes bs) n a b) else packed (Refused 15) nobody

-- the bytes of the tables that the rules hand back; as they came if they stand for none
unfoldable pub bytes_after : List ℕ → ℕ → ℤ → ℤ → List ℕ
bytes_after bs n a b = if well_formed bs then to_bytes (enter (from_bytes bs) n a b).outcome.tables else bs

-- the answer r and the bytes that are left, as one call has to have them: of all that is lent and asked they are these and no others
pub record Called (bs : List ℕ) (n : ℕ) (a b : ℤ) (r : ℕ) (after : List ℕ) : Type 0 where
  pub answer : r ≡ answer_of bs n a b
  pub bytes : after ≡ bytes_after bs n a b

-- boot: the boot tables where the length is right; else 15, and nothing is written
unfoldable pub boot_answer : List ℕ → ℕ
boot_answer bs = if eqb (length bs) size then 0 else 15

unfoldable pub booted : List ℕ → List ℕ
booted bs = if eqb (length bs) size then to_bytes boot else bs

-- the check
unfoldable pub check_answer : List ℕ → ℕ
check_answer bs = if good bs then 0 else 15
