-- The tables as bytes, grouped by field, and back.
use Rattle.std.specs.Prelude.{if◌then◌else◌, ℕ, ◌+◌, ◌*◌, ◌-◌, ◌/◌, ◌%◌, Bool, true, false, ◌&&◌, List, get_or, length, eqb, ltb, ℤ}
use Rattle.std.specs.Int.{w32}
use Rattle.std.proofs.Common.{of_z, to_z}
use Rattle.lists.specs.Numbers.{listed, all}
use Rattle.tables.specs.declared.State.{State}
use Rattle.tables.specs.declared.State.TheVariants.{Free, Current, Ready, Suspended, Waiting}
use Rattle.tables.specs.declared.Process.{Process}
use Rattle.tables.specs.declared.Semaphore.{Semaphore}
use Rattle.tables.specs.declared.Tables.{Tables}
use Rattle.tables.specs.Limits.{process_limit, semaphore_limit}
use Rattle.tables.specs.Readers.{state_of, priority_of, is_used, count_of}
use Rattle.layout.specs.Offsets.{states_at, priorities_at, used_at, counts_at, order_at, next_semaphore_at, next_process_at, size}

-- the byte of waiting on semaphore 0
abbrev pub waiting_from : ℕ
waiting_from = 4

-- the byte of a state that no table has: waiting on what is no semaphore's number
abbrev pub no_state : ℕ
no_state = 255

-- the byte of a state: 0 free, 1 current, 2 ready, 3 suspended, then waiting on 0, 1, 2 and so on
abbrev pub state_byte : State → ℕ
state_byte Free = 0
state_byte Current = 1
state_byte Ready = 2
state_byte Suspended = 3
state_byte (Waiting s) = if ltb s semaphore_limit then waiting_from + s else no_state

abbrev pub byte_state : ℕ → State
byte_state b =
    if eqb b 0 then Free else
    if eqb b 1 then Current else
    if eqb b 2 then Ready else
    if eqb b 3 then Suspended else
    Waiting (b - waiting_from)

-- the byte of a used flag
abbrev pub used_byte : Bool → ℕ
used_byte true = 1
used_byte false = 0

-- byte d of a word, low byte first
abbrev pub word_byte : ℕ → ℕ → ℕ
word_byte n d =
    if eqb d 0 then n % 256 else
    if eqb d 1 then n / 256 % 256 else
    if eqb d 2 then n / 65536 % 256 else
    n / 16777216 % 256

-- the number of four bytes, low byte first
abbrev pub of4 : ℕ → ℕ → ℕ → ℕ → ℕ
of4 a b c d = a + b * 256 + c * 65536 + d * 16777216

-- byte i of the tables: each field ends where the next begins, and past the last field nothing stands. A count is a word in two's complement
abbrev pub byte_of : Tables → ℕ → ℕ
byte_of t i =
    if ltb i priorities_at then state_byte (state_of t (i - states_at)) else
    if ltb i used_at then priority_of t (i - priorities_at) else
    if ltb i counts_at then used_byte (is_used t (i - used_at)) else
    if ltb i order_at then word_byte (of_z w32 (count_of t ((i - counts_at) / 4))) ((i - counts_at) % 4) else
    if ltb i next_semaphore_at then get_or t.order (i - order_at) 0 else
    if ltb i next_process_at then t.next_semaphore else
    if ltb i (next_process_at + 1) then t.next_process else
    0

unfoldable pub to_bytes : Tables → List ℕ
to_bytes t = listed 0 size (byte_of t)

-- What the bytes say

abbrev pub process_at : List ℕ → ℕ → Process
process_at bs p = record { state = byte_state (get_or bs (states_at + p) 0); priority = get_or bs (priorities_at + p) 0 }

-- the word that begins at k
abbrev pub word_at : List ℕ → ℕ → ℕ
word_at bs k = of4 (get_or bs k 0) (get_or bs (k + 1) 0) (get_or bs (k + 2) 0) (get_or bs (k + 3) 0)

abbrev pub count_at : List ℕ → ℕ → ℤ
count_at bs s = to_z w32 (word_at bs (counts_at + s * 4))

abbrev pub semaphore_at : List ℕ → ℕ → Semaphore
semaphore_at bs s = record { used = eqb (get_or bs (used_at + s) 0) 1; count = count_at bs s }

abbrev pub place_at : List ℕ → ℕ → ℕ
place_at bs i = get_or bs (order_at + i) 0

unfoldable pub from_bytes : List ℕ → Tables
from_bytes bs =
    record {
      processes = listed 0 process_limit (process_at bs);
      semaphores = listed 0 semaphore_limit (semaphore_at bs);
      order = listed 0 process_limit (place_at bs);
      next_semaphore = get_or bs next_semaphore_at 0;
      next_process = get_or bs next_process_at 0;
    }

-- each state byte names a state, each used flag is 0 or 1, each place of the row names a process, and nothing is missing or over
abbrev pub state_named : List ℕ → ℕ → Bool
state_named bs p = ltb (get_or bs (states_at + p) 0) (waiting_from + semaphore_limit)

abbrev pub flag_plain : List ℕ → ℕ → Bool
flag_plain bs s = ltb (get_or bs (used_at + s) 0) 2

abbrev pub place_named : List ℕ → ℕ → Bool
place_named bs i = ltb (get_or bs (order_at + i) 0) process_limit

unfoldable pub well_formed : List ℕ → Bool
well_formed bs = eqb (length bs) size && (all process_limit (state_named bs) && (all semaphore_limit (flag_plain bs) && all process_limit (place_named bs)))
