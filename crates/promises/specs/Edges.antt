-- Both sides of each edge, in one table: a call on tables that a run from boot leaves, and what is seen before it and after it.
use Rattle.std.specs.Prelude.{ℕ, List, [], ◌∷◌, ◌++◌, reverse, ℤ, pos, negsuc}
use Rattle.tables.specs.declared.Tables.{Tables}
use Rattle.tables.specs.Readers.{current_of}
use Rattle.tables.specs.Boot.{boot}
use Rattle.rules.specs.declared.Outcome.{Outcome}
use Rattle.rules.specs.Answers.{number_of, value_of}
use Rattle.rules.specs.Seen.{Seen, seen, in_use, not_in_use}
use Rattle.promises.specs.Record.{made, Request, after}

-- what is seen of a call, and of one semaphore
pub record Sight : Type 0 where
  -- who calls, and the semaphore before it
  pub caller : ℕ
  pub was : Seen
  -- the refusal, 0 for none, and the value
  pub refusal : ℕ
  pub value : ℤ
  -- the semaphore after it, and who runs
  pub is : Seen
  pub running : ℕ

pub record Edge : Type 0 where
  -- the requests before it from boot, the first first
  pub before : List Request
  pub request : Request
  -- the semaphore that is looked at
  pub semaphore : ℕ
  pub sight : Sight

-- what the rules have there
abbrev pub sight_of : Edge → Sight
sight_of e =
    let t : Tables = after boot (reverse e.before) in
    let o : Outcome = made t e.request in
    record {
      caller = current_of t;
      was = seen t e.semaphore;
      refusal = number_of o.answer;
      value = value_of o.answer;
      is = seen o.tables e.semaphore;
      running = current_of o.tables;
    }

-- Requests

abbrev pub call : ℕ → ℤ → Request
call n a = record { number = n; a = a; b = pos 0 }

abbrev pub minus1 : ℤ
minus1 = negsuc 0

abbrev pub minus2 : ℤ
minus2 = negsuc 1

abbrev pub minus3 : ℤ
minus3 = negsuc 2

-- process 3 runs, and semaphore 0 has count c
abbrev pub three_runs : ℤ → List Request
three_runs c = call 6 (pos 20) ∷ call 6 (pos 20) ∷ call 6 (pos 20) ∷ call 7 (pos 3) ∷ call 3 c ∷ []

-- seven processes are made; 4, 6 and 7 run and wait on semaphore 0 one after the other
abbrev pub three_wait : List Request
three_wait =
    call 6 (pos 20) ∷ call 6 (pos 20) ∷ call 6 (pos 20) ∷ call 6 (pos 20) ∷ call 6 (pos 20) ∷ call 6 (pos 20) ∷ call 6 (pos 20)
    ∷ call 3 (pos 0)
    ∷ call 7 (pos 4) ∷ call 1 (pos 0)
    ∷ call 7 (pos 6) ∷ call 1 (pos 0)
    ∷ call 7 (pos 7) ∷ call 1 (pos 0)
    ∷ []

-- Lines of the table: the requests before, the caller, the call

-- it is done with a value, and semaphore 0 was and is seen so; who runs then
abbrev pub does : List Request → ℕ → Request → ℤ → Seen → Seen → ℕ → Edge
does qs p q v was is runs = record { before = qs; request = q; semaphore = 0; sight = record { caller = p; was = was; refusal = 0; value = v; is = is; running = runs } }

-- it is refused with a number; semaphore s is seen as before, and the caller runs on
abbrev pub refuses : List Request → ℕ → Request → ℕ → ℕ → Seen → Edge
refuses qs p q n s was = record { before = qs; request = q; semaphore = s; sight = record { caller = p; was = was; refusal = n; value = minus1; is = was; running = p } }

-- The table

abbrev pub edges : List Edge
edges =
    -- wait, count 1, caller 3: count 0, caller still current
    does (three_runs (pos 1)) 3 (call 1 (pos 0)) (pos 1) (in_use (pos 1) []) (in_use (pos 0) []) 3
    -- count 0: count -1, caller waits
    ∷ does (three_runs (pos 0)) 3 (call 1 (pos 0)) (pos 1) (in_use (pos 0) []) (in_use minus1 (3 ∷ [])) 0
    -- wait on 120 and on -1: 1; wait on 119, free: 2
    ∷ refuses (three_runs (pos 1)) 3 (call 1 (pos 120)) 1 0 (in_use (pos 1) [])
    ∷ refuses (three_runs (pos 1)) 3 (call 1 minus1) 1 0 (in_use (pos 1) [])
    ∷ refuses (three_runs (pos 1)) 3 (call 1 (pos 119)) 2 119 not_in_use
    -- process 0 waits, count 1: 10, and the count is still 1; count 0: 10
    ∷ refuses (call 3 (pos 1) ∷ []) 0 (call 1 (pos 0)) 10 0 (in_use (pos 1) [])
    ∷ refuses (call 3 (pos 0) ∷ []) 0 (call 1 (pos 0)) 10 0 (in_use (pos 0) [])
    -- on 120 and on -1: 1, not 10; on 119, free: 2, not 10
    ∷ refuses [] 0 (call 1 (pos 120)) 1 0 not_in_use
    ∷ refuses [] 0 (call 1 minus1) 1 0 not_in_use
    ∷ refuses [] 0 (call 1 (pos 119)) 2 119 not_in_use
    -- signal at 2,147,483,646: count 2,147,483,647
    ∷ does (three_runs (pos 2147483646)) 3 (call 2 (pos 0)) (pos 1) (in_use (pos 2147483646) []) (in_use (pos 2147483647) []) 3
    -- signal again: 5
    ∷ refuses (three_runs (pos 2147483646) ++ call 2 (pos 0) ∷ []) 3 (call 2 (pos 0)) 5 0 (in_use (pos 2147483647) [])
    -- reset of 120 to -1: 3, not 1
    ∷ refuses (three_runs (pos 1)) 3 (record { number = 5; a = pos 120; b = minus1 }) 3 0 (in_use (pos 1) [])
    -- make a process with priority 63 at boot: done, value 1; with 64, and with 0: refusal 11
    ∷ does [] 0 (call 6 (pos 63)) (pos 1) not_in_use not_in_use 0
    ∷ refuses [] 0 (call 6 (pos 64)) 11 0 not_in_use
    ∷ refuses [] 0 (call 6 (pos 0)) 11 0 not_in_use
    -- suspend 0: 10; resume 0: 17 where it is current, 18 where it is ready
    ∷ refuses [] 0 (call 8 (pos 0)) 10 0 not_in_use
    ∷ refuses [] 0 (call 7 (pos 0)) 17 0 not_in_use
    ∷ refuses (three_runs (pos 1)) 3 (call 7 (pos 0)) 18 0 (in_use (pos 1) [])
    -- resume the current 3: 17; the suspended 2: done, and it runs
    ∷ refuses (three_runs (pos 1)) 3 (call 7 (pos 3)) 17 0 (in_use (pos 1) [])
    ∷ does (three_runs (pos 1)) 3 (call 7 (pos 2)) (pos 20) (in_use (pos 1) []) (in_use (pos 1) []) 2
    -- suspend the suspended 2: 9; the current 3: done, and 0 runs
    ∷ refuses (three_runs (pos 1)) 3 (call 8 (pos 2)) 9 0 (in_use (pos 1) [])
    ∷ does (three_runs (pos 1)) 3 (call 8 (pos 3)) (pos 20) (in_use (pos 1) []) (in_use (pos 1) []) 0
    -- resume and suspend the waiting 6: 19
    ∷ refuses three_wait 0 (call 7 (pos 6)) 19 0 (in_use minus3 (4 ∷ 6 ∷ 7 ∷ []))
    ∷ refuses three_wait 0 (call 8 (pos 6)) 19 0 (in_use minus3 (4 ∷ 6 ∷ 7 ∷ []))
    -- kill the second of waiters 4, 6, 7: count -3 becomes -2, queue 4, 7
    ∷ does three_wait 0 (call 9 (pos 6)) (pos 1) (in_use minus3 (4 ∷ 6 ∷ 7 ∷ [])) (in_use minus2 (4 ∷ 7 ∷ [])) 0
    ∷ []
