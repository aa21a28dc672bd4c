-- Words to tell what a call leaves: how each semaphore is seen, who is ready in which order, and who runs.
use Rattle.std.specs.Prelude.{if◌then◌else◌, ℕ, ◌≤◌, ◌<◌, true, List, [], ◌∷◌, ◌++◌, ◌≢◌, ◌≡◌, ltb, ℤ, pos}
use Rattle.lists.specs.Lists.{put_before, times, is_empty, first}
use Rattle.tables.specs.declared.Tables.{Tables}
use Rattle.tables.specs.Readers.{priority_of, ready_list, queue, currents}
use Rattle.rules.specs.declared.Answer.TheVariants.{Done}
use Rattle.rules.specs.declared.Outcome.{Outcome}
use Rattle.rules.specs.Seen.{Seen, seen}
use Rattle.rules.specs.Answers.{Check, ◌when◌, NoneHolds}
use Rattle.rules.specs.declared.Call.{Call}
use Rattle.rules.specs.declared.Call.TheVariants.{MakeSemaphore, Delete, Reset, MakeProcess, Resume, Suspend, Kill}
use Rattle.rules.specs.Calls.{free_slots}

-- n is the number of the first of these checks that holds
pub record FirstHolds (cs : List Check) (n : ℕ) : Type 0 where
  pub before : List Check
  pub after : List Check
  pub found : cs ≡ before ++ (n when true) ∷ after
  pub none : NoneHolds before

-- the call makes no semaphore and no process
pub record MakesNothing (c : Call) : Type 0 where
  pub semaphore : (a : ℤ) → c ≢ MakeSemaphore a
  pub process : (a : ℤ) → c ≢ MakeProcess a

-- the count of semaphore s goes on: the call neither deletes nor resets it
pub record CountGoesOn (c : Call) (s : ℕ) : Type 0 where
  pub undeleted : c ≢ Delete (pos s)
  pub unreset : (b : ℤ) → c ≢ Reset (pos s) b

-- the call neither makes process x nor kills it
pub record Spares (t : Tables) (c : Call) (x : ℕ) : Type 0 where
  pub unmade : (a : ℤ) → c ≡ MakeProcess a → x ≢ first (free_slots t)
  pub unkilled : c ≢ Kill (pos x)

-- nor does it resume or suspend it
pub record PassesBy (t : Tables) (c : Call) (x : ℕ) : Type 0 where
  pub spares : Spares t c x
  pub unresumed : c ≢ Resume (pos x)
  pub unsuspended : c ≢ Suspend (pos x)

-- who is ready, in order, and who is current
pub record Seats : Type 0 where
  pub ready : List ℕ
  pub running : List ℕ

abbrev pub seats : Tables → Seats
seats t = record { ready = ready_list t; running = currents t }

abbrev pub seated : List ℕ → List ℕ → Seats
seated r c = record { ready = r; running = c }

-- p put behind every entry whose rank is equal or higher
abbrev pub behind : (ℕ → ℕ) → ℕ → List ℕ → List ℕ
behind rank p xs = put_before (λ x. ltb (rank x) (rank p)) p xs

-- p stands in ys as it is put in xs: behind every entry whose rank is equal or higher, and before the others
pub record PutBehind (rank : ℕ → ℕ) (p : ℕ) (xs ys : List ℕ) : Type 0 where
  pub front : List ℕ
  pub back : List ℕ
  pub was : xs ≡ front ++ back
  pub is : ys ≡ front ++ p ∷ back
  pub higher : (x : ℕ) → 1 ≤ times x front → rank p ≤ rank x
  pub lower : (x : ℕ) → 1 ≤ times x back → rank x < rank p

-- each of these in turn
unfoldable pub all_behind : (ℕ → ℕ) → List ℕ → List ℕ → List ℕ
all_behind rank [] xs = xs
all_behind rank (p ∷ ps) xs = all_behind rank ps (behind rank p xs)

-- the first of the list is taken off and becomes current
abbrev pub head_runs : List ℕ → Seats
head_runs [] = seated [] []
head_runs (f ∷ fs) = seated fs (f ∷ [])

-- to reschedule: if the ready list is empty, nothing changes; if the current process's priority is higher than the first ready
-- one's, nothing changes; otherwise one that is still current is put on the list, and the first of the list becomes current
unfoldable pub reseat : (ℕ → ℕ) → List ℕ → List ℕ → Seats
reseat rank [] cs = seated [] cs
reseat rank (f ∷ fs) [] = head_runs (f ∷ fs)
reseat rank (f ∷ fs) (c ∷ cs) = if ltb (rank f) (rank c) then seated (f ∷ fs) (c ∷ cs) else head_runs (behind rank c (f ∷ fs))

-- all waiters become ready in queue order; then one reschedule if there was any
abbrev pub released : Tables → ℕ → Seats
released t s = if is_empty (queue t s) then seats t else reseat (priority_of t) (all_behind (priority_of t) (queue t s) (ready_list t)) (currents t)

-- a call on t was done with value v: semaphore s is seen as x, every other as before, and the seats are y
pub record Changes (t : Tables) (o : Outcome) (v : ℤ) (s : ℕ) (x : Seen) (y : Seats) : Type 0 where
  pub value : o.answer ≡ Done v
  pub here : seen o.tables s ≡ x
  pub elsewhere : (r : ℕ) → r ≢ s → seen o.tables r ≡ seen t r
  pub seated : seats o.tables ≡ y

-- a call on t was done with value v: every semaphore is seen as before, and the seats are y
pub record Keeps (t : Tables) (o : Outcome) (v : ℤ) (y : Seats) : Type 0 where
  pub value : o.answer ≡ Done v
  pub everywhere : (r : ℕ) → seen o.tables r ≡ seen t r
  pub seated : seats o.tables ≡ y
