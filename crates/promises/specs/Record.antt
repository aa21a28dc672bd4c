-- The record of calls, and what it says of a semaphore.
use Rattle.std.specs.Prelude.{if◌then◌else◌, ℕ, Bool, true, false, ◌&&◌, List, [], ◌∷◌, ◌++◌, ◌≢◌, ◌≡◌, eqb, ltb, ℤ, nat_abs}
use Rattle.std.proofs.Math.Option.{Option, none, some}
use Rattle.std.proofs.Math.IntN.{suc_ℤ, pred_ℤ}
use Rattle.std.specs.Int.{w32}
use Rattle.std.proofs.Common.{SFits}
use Rattle.lists.specs.Lists.{Each, times}
use Rattle.tables.specs.declared.Tables.{Tables}
use Rattle.tables.specs.Readers.{current_of}
use Rattle.rules.specs.declared.Answer.{Answer}
use Rattle.rules.specs.declared.Answer.TheVariants.{Done, Refused}
use Rattle.rules.specs.declared.Outcome.{Outcome}
use Rattle.rules.specs.declared.Call.{Call}
use Rattle.rules.specs.declared.Call.TheVariants.{Wait, Signal, MakeSemaphore, Delete, Reset, MakeProcess, Resume, Suspend, Kill, Yield, Count}
use Rattle.rules.specs.Calls.{below0}
use Rattle.rules.specs.Enter.{Form, form_of, call_of, numbered}

-- a call by its number, and its two arguments
pub record Request : Type 0 where
  pub number : ℕ
  pub a : ℤ
  pub b : ℤ

-- both arguments are signed numbers of 32 bits
pub record ArgumentsFit (q : Request) : Type 0 where
  pub a : SFits w32 q.a
  pub b : SFits w32 q.b

abbrev pub AllFit : List Request → Type 0
AllFit qs = Each ArgumentsFit qs

-- a call that was made, with its caller and its answer
pub record Entry : Type 0 where
  pub caller : ℕ
  pub request : Request
  pub answer : Answer

-- A wait that took the count below 0, and what has become of its number. Numbers 1, 2, 3 are places in a list

pub data Fate : Type 0 where
  standing struck taken : Fate

pub record WaitNumber : Type 0 where
  pub process : ℕ
  pub fate : Fate

abbrev pub stands : Fate → Bool
stands standing = true
stands struck = false
stands taken = false

-- what the record says of a semaphore since it was last made or reset
pub record Account : Type 0 where
  pub count : ℤ
  pub waits : List WaitNumber

-- the processes whose number is neither struck nor taken, in rising order
unfoldable pub still_blocked : List WaitNumber → List ℕ
still_blocked [] = []
still_blocked (w ∷ ws) =
    let rest : List ℕ = still_blocked ws in
    if stands w.fate then w.process ∷ rest else rest

-- the smallest number neither struck nor taken is taken
unfoldable pub take_smallest : List WaitNumber → List WaitNumber
take_smallest [] = []
take_smallest (w ∷ ws) =
    let later : List WaitNumber = w ∷ take_smallest ws in
    if stands w.fate then record { process = w.process; fate = taken } ∷ ws else later

-- the number of a wait of p that is neither struck nor taken is struck
unfoldable pub strike : ℕ → List WaitNumber → List WaitNumber
strike p [] = []
strike p (w ∷ ws) = (if stands w.fate && eqb w.process p then record { process = w.process; fate = struck } else w) ∷ strike p ws

abbrev pub among : ℕ → List ℕ → Bool
among p xs = ltb 0 (times p xs)

-- What an entry adds

abbrev pub opened : ℤ → Account
opened c = record { count = c; waits = [] }

unfoldable pub waited : ℕ → Account → Account
waited p n =
    let c : ℤ = pred_ℤ n.count in
    record { count = c; waits = if below0 c then n.waits ++ record { process = p; fate = standing } ∷ [] else n.waits }

unfoldable pub signalled : Account → Account
signalled n = record { count = suc_ℤ n.count; waits = if below0 n.count then take_smallest n.waits else n.waits }

unfoldable pub killed : ℕ → Account → Account
killed p n = if among p (still_blocked n.waits) then record { count = suc_ℤ n.count; waits = strike p n.waits } else n

abbrev pub change : {A : Type 0} → (A → A) → Option A → Option A
change f none = none
change f (some n) = some (f n)

abbrev pub names : ℤ → ℕ → Bool
names a s = eqb (nat_abs a) s

-- What an entry is to a semaphore

pub data Event : Type 0 where
  -- it is made with this count, or reset to it
  Sets : ℤ → Event
  -- it is deleted
  Ends : Event
  Signals Waits : Event
  -- this process is killed, whether or not it waits here
  Kills : ℕ → Event
  Nothing : Event

-- what a call that was answered with value v is to semaphore s
abbrev pub accepted : ℕ → Call → ℤ → Event
accepted s (Wait a) v = if names a s then Waits else Nothing
accepted s (Signal a) v = if names a s then Signals else Nothing
accepted s (MakeSemaphore a) v = if names v s then Sets a else Nothing
accepted s (Delete a) v = if names a s then Ends else Nothing
accepted s (Reset a b) v = if names a s then Sets b else Nothing
accepted s (MakeProcess a) v = Nothing
accepted s (Resume a) v = Nothing
accepted s (Suspend a) v = Nothing
accepted s (Kill a) v = Kills (nat_abs a)
accepted s Yield v = Nothing
accepted s (Count a) v = Nothing

-- refused calls add nothing
abbrev pub answered : ℕ → Call → Answer → Event
answered s c (Done v) = accepted s c v
answered s c (Refused n) = Nothing

-- and so do numbers that no call has
abbrev pub entered : ℕ → Option Form → Entry → Event
entered s none e = Nothing
entered s (some f) e = answered s (call_of f e.request.a e.request.b) e.answer

abbrev pub event : ℕ → Entry → Event
event s e = entered s (form_of e.request.number) e

-- no accepted wait has caller 0
abbrev pub NoNullWait : List Entry → Type 0
NoNullWait entries = Each (λ e. e.caller ≡ 0 → (s : ℕ) → event s e ≢ Waits) entries

-- the account after it, where p is the caller; a semaphore that isn't in use has none
abbrev pub noted : ℕ → Event → Option Account → Option Account
noted p (Sets c) old = some (opened c)
noted p Ends old = none
noted p Signals old = change signalled old
noted p Waits old = change (waited p) old
noted p (Kills q) old = change (killed q) old
noted p Nothing old = old

-- what a record says of semaphore s; the latest entry comes first
unfoldable pub account : ℕ → List Entry → Option Account
account s [] = none
account s (e ∷ earlier) = noted e.caller (event s e) (account s earlier)

-- who it says is still blocked on s, oldest first: nobody where it has no account of it
abbrev pub blocked_by : Option Account → List ℕ
blocked_by none = []
blocked_by (some n) = still_blocked n.waits

abbrev pub blocked : List Entry → ℕ → List ℕ
blocked entries s = blocked_by (account s entries)

-- The tables and the record after any list of requests, the latest first

abbrev pub made : Tables → Request → Outcome
made t r = numbered t r.number r.a r.b

abbrev pub entry_of : Tables → Request → Entry
entry_of t r = record { caller = current_of t; request = r; answer = (made t r).answer }

unfoldable pub after : Tables → List Request → Tables
after start [] = start
after start (r ∷ earlier) = (made (after start earlier) r).tables

unfoldable pub record_of : Tables → List Request → List Entry
record_of start [] = []
record_of start (r ∷ earlier) = entry_of (after start earlier) r ∷ record_of start earlier
