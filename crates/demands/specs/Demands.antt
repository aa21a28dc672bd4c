-- Demands 1 and 2, of the bytes that are lent and the number that is answered.
use Rattle.std.specs.Prelude.{ℕ, ◌<◌, true, false, List, ◌∷◌, ◌≢◌, ◌≡◌, get_or}
use Rattle.tables.specs.Limits.{process_limit}
use Rattle.tables.specs.Readers.{nobody}
use Rattle.soundness.specs.Good.{good}
use Rattle.layout.specs.Bytes.{from_bytes}
use Rattle.rules.specs.Answers.{Ranged}
use Rattle.telling.specs.Reasons.{Reason, ◌given◌, numbered_reasons}
use Rattle.promises.specs.Record.{Request, ArgumentsFit}
use Rattle.cottonsedge.specs.Fields.{answer_end, refusal_field, value_field, process_field, unpacked}
use Rattle.cottonsedge.specs.Entries.{Called}

-- what can be asked: a call number of one byte, and two signed numbers of 32 bits
pub record Asked (q : Request) : Type 0 where
  pub number : q.number < 256
  pub arguments : ArgumentsFit q

-- what can be lent: bytes
abbrev pub Bytes : List ℕ → Type 0
Bytes bs = (i : ℕ) → get_or bs i 0 < 256

-- what a call gives: the answer, and the bytes that it leaves
pub record Result : Type 0 where
  pub answer : ℕ
  pub bytes : List ℕ

-- Demand 1: what the answer to a call on these bytes says

pub record Demand1 (bs : List ℕ) (x : Result) : Type 0 where
  -- it stands in the low 48 bits, the rest 0
  pub small : x.answer < answer_end
  -- a refusal has value -1, and no byte is changed
  pub refused : refusal_field x.answer ≢ 0 → (value_field x.answer ≡ 0xffffffff) × (x.bytes ≡ bs)
  -- only sound tables are called
  pub done : refusal_field x.answer ≡ 0 → good bs ≡ true
  -- others are answered 15, and the process is told as 255
  pub unsound : good bs ≡ false → (refusal_field x.answer ≡ 15) × (process_field x.answer ≡ nobody)
  -- sound ones are done, or refused with a number that is a call's: never 12, 15 or 16; and a process is told
  pub sound : good bs ≡ true → Ranged (unpacked x.answer) × (process_field x.answer < process_limit)

-- when each refusal number is given: the first of these reasons that holds gives its own

-- 15: the tables lent aren't sound, or are too short or too long
abbrev pub not_good : List ℕ → Reason
not_good bs = 15 given good bs ≡ false

abbrev pub reasons_of_bytes : List ℕ → Request → List Reason
reasons_of_bytes bs q = not_good bs ∷ numbered_reasons (from_bytes bs) q.number q.a q.b

-- Demand 2: the answer and every byte are those of the rules

-- the contract of `cottonsedge_call` allows this result
abbrev pub Allowed : List ℕ → Request → Result → Type 0
Allowed bs q x = Called bs q.number q.a q.b x.answer x.bytes

-- a kernel: from the requests that it may remember, the latest first, the bytes that it is lent, and what it is asked
abbrev pub Kernel : Type 0
Kernel = List Request → List ℕ → Request → Result

abbrev pub Demand2 : Kernel → Type 0
Demand2 k = (earlier : List Request) (bs : List ℕ) (q : Request) → Bytes bs → Asked q → Allowed bs q (k earlier bs q)
