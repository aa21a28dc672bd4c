-- The test of soundness, as it is computed. proofs/TestLaws shows that it holds exactly when the tables are sound.
use Rattle.std.specs.Prelude.{if◌then◌else◌, ℕ, suc, Bool, true, false, ◌&&◌, ◌||◌, List, [], ◌∷◌, length, get_or, ℤ, pos, negsuc, eqb, ltb, leb}
use Rattle.std.proofs.Math.Option.{Option, none, some}
use Rattle.lists.specs.Lists.{times, falls}
use Rattle.lists.specs.Numbers.{all}
use Rattle.tables.specs.declared.State.{State}
use Rattle.tables.specs.declared.Process.{Process}
use Rattle.tables.specs.declared.Semaphore.{Semaphore}
use Rattle.tables.specs.declared.Tables.{Tables}
use Rattle.tables.specs.Limits.{process_limit, semaphore_limit, priority_limit}
use Rattle.tables.specs.States.{is_free, is_current, is_ready, awaits}
use Rattle.tables.specs.Readers.{process, semaphore, state_of, priority_of, ready_list, queue, currents, current_of}

-- as many slots, entries and places as the type has
abbrev pub shaped : Tables → Bool
shaped t = eqb (length t.processes) process_limit && (eqb (length t.semaphores) semaphore_limit && eqb (length t.order) process_limit)

-- every process number stands in the row exactly once, and nothing else does
unfoldable pub once_each : List ℕ → Bool
once_each row = all process_limit (λ i. ltb (get_or row i 0) process_limit) && all process_limit (λ p. eqb (times p row) 1)

-- who waits names a semaphore
abbrev pub is_semaphore : Option ℕ → Bool
is_semaphore none = true
is_semaphore (some s) = ltb s semaphore_limit

abbrev pub names_semaphore : State → Bool
names_semaphore st = is_semaphore (awaits st)

-- the null process: current or ready, with priority 0
abbrev pub null_fits : Process → Bool
null_fits x = (is_current x.state || is_ready x.state) && eqb x.priority 0

-- another slot: free with priority 0, or live with priority 1 to 63
abbrev pub slot_fits : Process → Bool
slot_fits x = if is_free x.state then eqb x.priority 0 else (ltb 0 x.priority && leb x.priority priority_limit)

-- a count goes with n waiting: -n of them, n > 0, or at least 0 with none; of a free semaphore 0 with none
abbrev pub count_fits : Bool → ℤ → ℕ → Bool
count_fits true (pos c) n = eqb n 0
count_fits true (negsuc c) n = eqb n (suc c)
count_fits false (pos c) n = eqb c 0 && eqb n 0
count_fits false (negsuc c) n = false

abbrev pub semaphore_fits : Semaphore → ℕ → Bool
semaphore_fits x n = count_fits x.used x.count n

unfoldable pub semaphores_fit : Tables → Bool
semaphores_fit t = all semaphore_limit (λ s. semaphore_fits (semaphore t s) (length (queue t s)))

-- the ready list falls, from the priority of the current process on
unfoldable pub ready_falls : Tables → Bool
ready_falls t = falls (priority_of t) (priority_of t (current_of t)) (ready_list t)

abbrev pub clauses : Tables → List Bool
clauses t =
    shaped t
    ∷ all process_limit (λ p. names_semaphore (state_of t p))
    ∷ ltb t.next_semaphore semaphore_limit
    ∷ ltb t.next_process process_limit
    ∷ null_fits (process t 0)
    ∷ all process_limit (λ p. eqb p 0 || slot_fits (process t p))
    ∷ once_each t.order
    ∷ eqb (length (currents t)) 1
    ∷ ready_falls t
    ∷ semaphores_fit t
    ∷ []

abbrev pub all_of : List Bool → Bool
all_of [] = true
all_of (b ∷ bs) = b && all_of bs

unfoldable pub sound_now : Tables → Bool
sound_now t = all_of (clauses t)
