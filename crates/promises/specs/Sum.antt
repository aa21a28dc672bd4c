-- The sum that demand 3 names: what the record adds up to as the count of a semaphore.
use Rattle.std.specs.Prelude.{if◌then◌else◌, ℕ, suc, Bool, false, List, [], ◌∷◌, ℤ, pos, ◌+ℤ◌, ◌-ℤ◌}
use Rattle.std.proofs.Math.Option.{Option, none, some}
use Rattle.promises.specs.Record.{Entry, Account, still_blocked, among, change, Event, Sets, Ends, Signals, Waits, Kills, Nothing, event, account}

-- the count that it was last made with or reset to, and how many signals, waits and kills of its waiters came later
pub record Sum : Type 0 where
  pub last : ℤ
  pub signals : ℕ
  pub waits : ℕ
  pub kills : ℕ

-- its last created or reset count, plus later signals, minus later waits, plus later kills of its waiters
abbrev pub amount : Sum → ℤ
amount n = n.last +ℤ pos n.signals -ℤ pos n.waits +ℤ pos n.kills

abbrev pub one_signal : Sum → Sum
one_signal n = record { last = n.last; signals = suc n.signals; waits = n.waits; kills = n.kills }

abbrev pub one_wait : Sum → Sum
one_wait n = record { last = n.last; signals = n.signals; waits = suc n.waits; kills = n.kills }

abbrev pub one_kill : Sum → Sum
one_kill n = record { last = n.last; signals = n.signals; waits = n.waits; kills = suc n.kills }

-- p is one of its waiters, says the record
abbrev pub waits_there : ℕ → Option Account → Bool
waits_there p none = false
waits_there p (some n) = among p (still_blocked n.waits)

-- what an event adds, after a record that says so much of the semaphore
abbrev pub added : Event → Option Account → Option Sum → Option Sum
added (Sets c) before old = some (record { last = c; signals = 0; waits = 0; kills = 0 })
added Ends before old = none
added Signals before old = change one_signal old
added Waits before old = change one_wait old
added (Kills p) before old = if waits_there p before then change one_kill old else old
added Nothing before old = old

-- the sum of semaphore s; the latest entry comes first
unfoldable pub sum_of : ℕ → List Entry → Option Sum
sum_of s [] = none
sum_of s (e ∷ earlier) = added (event s e) (account s earlier) (sum_of s earlier)
