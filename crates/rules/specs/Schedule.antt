-- Who joins the ready list or a queue, where, and who runs then.
use Rattle.std.specs.Prelude.{if◌then◌else◌, ℕ, ltb, Bool, false, ◌&&◌, List, [], ◌∷◌}
use Rattle.lists.specs.Lists.{place}
use Rattle.tables.specs.declared.State.{State}
use Rattle.tables.specs.declared.State.TheVariants.{Current, Ready, Waiting}
use Rattle.tables.specs.declared.Tables.{Tables}
use Rattle.tables.specs.States.{is_ready}
use Rattle.tables.specs.Readers.{state_of, priority_of, ready_list, currents}
use Rattle.tables.specs.Setters.{with_order, with_state}

-- p is put in the row before the first process that passes the test, or last, and takes the state
unfoldable pub joining : Tables → ℕ → (ℕ → Bool) → State → Tables
joining t p before st = with_state (with_order t (place before p t.order)) p st

-- p joins the ready list before the first entry that passes the test, or last
abbrev pub ready_before : (ℕ → Bool) → Tables → ℕ → Tables
ready_before low t p = joining t p (λ x. is_ready (state_of t x) && low x) Ready

-- behind every entry whose priority is equal or higher, so before the first whose priority is lower
abbrev pub make_ready : Tables → ℕ → Tables
make_ready t p = ready_before (λ x. ltb (priority_of t x) (priority_of t p)) t p

-- each of these in turn
unfoldable pub make_all_ready : Tables → List ℕ → Tables
make_all_ready t [] = t
make_all_ready t (p ∷ ps) = make_all_ready (make_ready t p) ps

-- p joins the queue of s at its tail
abbrev pub make_wait : Tables → ℕ → ℕ → Tables
make_wait t p s = joining t p (λ x. false) (Waiting s)

-- the first of the ready list is taken off and becomes current
unfoldable pub start_first : Tables → List ℕ → Tables
start_first t [] = t
start_first t (f ∷ fs) = with_state t f Current

-- by the ready list and by who is still current: an empty list changes nothing; a current process of higher priority
-- than the first ready one goes on; else it joins the list, and the first of the list becomes current
unfoldable pub switch : Tables → List ℕ → List ℕ → Tables
switch t [] cs = t
switch t (f ∷ fs) [] = start_first t (ready_list t)
switch t (f ∷ fs) (c ∷ cs) = if ltb (priority_of t f) (priority_of t c) then t else start_first (make_ready t c) (ready_list (make_ready t c))

unfoldable pub reschedule : Tables → Tables
reschedule t = switch t (ready_list t) (currents t)
