-- Demand 3: what holds of the tables and of the record of the calls that made them.
use Rattle.std.specs.Prelude.{ℕ, suc, ◌≤◌, ◌<◌, true, false, List, [], ◌≢◌, ◌≡◌, negsuc}
use Rattle.std.proofs.Math.Option.{none, some}
use Rattle.lists.specs.Lists.{times}
use Rattle.tables.specs.declared.Tables.{Tables}
use Rattle.tables.specs.Limits.{process_limit}
use Rattle.tables.specs.States.{is_free, is_suspended}
use Rattle.tables.specs.Readers.{state_of, is_used, count_of, line, ready_list, queue, currents}
use Rattle.tables.specs.Sound.{Counted, Sound}
use Rattle.promises.specs.Record.{Entry, Account, still_blocked, account}
use Rattle.promises.specs.Sum.{Sum, amount, sum_of}

-- Places

pub data Place : Type 0 where
  running ready suspended : Place
  queue_of : ℕ → Place

-- who stands there
abbrev pub there : Tables → Place → List ℕ
there t running = currents t
there t ready = ready_list t
there t suspended = line t is_suspended
there t (queue_of s) = queue t s

-- p stands once in one place, and in no other
pub record OnePlace (t : Tables) (p : ℕ) : Type 0 where
  pub place : Place
  pub once : times p (there t place) ≡ 1
  pub nowhere_else : (x : Place) → x ≢ place → times p (there t x) ≡ 0

-- the record has an account of semaphore s, with its count, and with its queue: those still blocked, oldest first
pub record Accounted (t : Tables) (entries : List Entry) (s : ℕ) : Type 0 where
  -- the count is the last created or reset count, plus later signals, minus later waits, plus later kills of its waiters
  pub sum : Sum
  pub summed : sum_of s entries ≡ some sum
  pub adds : count_of t s ≡ amount sum
  pub says : Account
  pub known : account s entries ≡ some says
  pub count : count_of t s ≡ says.count
  pub waiters : queue t s ≡ still_blocked says.waits

pub record Demand3 (t : Tables) (entries : List Entry) : Type 0 where
  -- each live process is in exactly one place: running, ready, suspended or in one queue
  pub places : (p : ℕ) → is_free (state_of t p) ≡ false → OnePlace t p
  -- a free slot is in none
  pub free : (p : ℕ) → is_free (state_of t p) ≡ true → (x : Place) → times p (there t x) ≡ 0
  -- a semaphore in use has the count and the queue that the record says
  pub in_use : (s : ℕ) → is_used t s ≡ true → Accounted t entries s
  -- the record says nothing of one that isn't, and nobody waits on it
  pub not_in_use : (s : ℕ) → is_used t s ≡ false → (account s entries ≡ none) × (queue t s ≡ [])
  -- a count of -n means n waiters, and one of at least 0 means none
  pub waiters : (s : ℕ) → Counted (count_of t s) (queue t s)
  -- all of them different
  pub different : (s p : ℕ) → times p (queue t s) ≤ 1
  -- no count is below -31
  pub floor : (s n : ℕ) → count_of t s ≡ negsuc n → suc n < process_limit

-- tables that a run may start from, as the boot tables are: sound, with no semaphore in use
pub record Start (t : Tables) : Type 0 where
  pub sound : Sound t
  pub unused : (s : ℕ) → is_used t s ≡ false
