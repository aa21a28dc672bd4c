-- What a change of one process does to every line, and what each line of laid tables holds. Assumes nothing.
use Rattle.std.specs.Prelude.{if◌then◌else◌}
use Prim.Native.Nat.{ℕ, zero, suc, ◌≤◌, ◌<◌}
use native.Mathlib.Omega.{arith}
use mathlib.Core.Bool.{Bool, true, false, not, ◌&&◌, true≢false, and-true, and-false}
use mathlib.Core.List.{List, [], ◌∷◌}
use mathlib.Core.Logic.{◌≢◌}
use mathlib.Core.Path.{◌≡◌, refl, sym, ap, ◌∙◌}
use lib.Dec.{eqb}
use lib.ListN.{length, get_or, set, get_or-eq_default}
use lib.Seq.{get_or-set_same, get_or-set_other}
use borrow.Author.Tests.{eq-eqb, ne_eqb, lt-ltb}
use Rattle.lists.specs.Lists.{without, times}
use Rattle.lists.specs.Numbers.{count_up}
use Rattle.lists.proofs.Bools.{either, below?}
use Rattle.lists.proofs.ListLaws.{filter-leave, without-absent, times-filter, length-split, filter-no, passes, first_passes}
use Rattle.lists.proofs.NumberLaws.{listed-length}
use Rattle.tables.specs.declared.State.{State}
use Rattle.tables.specs.declared.State.TheVariants.{Free}
use Rattle.tables.specs.declared.Process.{Process}
use Rattle.tables.specs.declared.Semaphore.{Semaphore}
use Rattle.tables.specs.declared.Tables.{Tables}
use Rattle.tables.specs.Limits.{process_limit, semaphore_limit}
use Rattle.tables.specs.States.{is_free}
use Rattle.tables.specs.Readers.{free_slot, free_semaphore, process, state_of, priority_of, semaphore, is_used, is_live, line, live}
use Rattle.tables.specs.Setters.{in_state, with_process, with_state}
use Rattle.tables.specs.Sound.{Laid}

-- One process

pub at_same : (t : Tables) (p : ℕ) (y : Process) → p < length t.processes → process (with_process t p y) p ≡ y
at_same t p y h = get_or-set_same t.processes p y free_slot h

pub at_other : (t : Tables) (p : ℕ) (y : Process) (x : ℕ) → x ≢ p → process (with_process t p y) x ≡ process t x
at_other t p y x h = get_or-set_other t.processes p x y free_slot h

-- a state change keeps every priority
pub priority-kept : (t : Tables) (p : ℕ) (st : State) (x : ℕ) → priority_of (with_state t p st) x ≡ priority_of t x
priority-kept t p st x = go t.processes p x
  where
    go : (l : List Process) (i j : ℕ) → (get_or (set l i (in_state st (get_or l i free_slot))) j free_slot).priority ≡ (get_or l j free_slot).priority
    go [] i j = refl
    go (a ∷ l) zero zero = refl
    go (a ∷ l) zero (suc j) = refl
    go (a ∷ l) (suc i) zero = refl
    go (a ∷ l) (suc i) (suc j) = go l i j

-- A line that p isn't to be in

module _ (t : Tables) (p : ℕ) (y : Process) (test : State → Bool) (hp : p < length t.processes) (h : test y.state ≡ false) where
  test-leave : (x : ℕ) → test (state_of (with_process t p y) x) ≡ (test (state_of t x) && not (eqb x p))
  test-leave x =
      either x p
      (λ e. rw (e, eq-eqb p p refl) (ap (λ (r : Process). test r.state) (at_same t p y hp) ∙ h ∙ sym (and-false (test (state_of t p)))))
      (λ d. rw (ne_eqb x p d) (ap (λ (r : Process). test r.state) (at_other t p y x d) ∙ sym (and-true (test (state_of t x)))))

  pub line-leave : line (with_process t p y) test ≡ without p (line t test)
  unfolding line
  line-leave = filter-leave (λ x. test (state_of (with_process t p y) x)) (λ x. test (state_of t x)) p t.order test-leave

-- An entry of a line

pub line-absent : (t : Tables) (p : ℕ) (test : State → Bool) → test (state_of t p) ≡ false → without p (line t test) ≡ line t test
unfolding line
line-absent t p test h = without-absent (λ x. test (state_of t x)) p t.order h

pub line_first : (t : Tables) (test : State → Bool) (p : ℕ) (ps : List ℕ) → line t test ≡ p ∷ ps → test (state_of t p) ≡ true
unfolding line
line_first t test p ps e = first_passes (λ x. test (state_of t x)) t.order ps p e

pub line-passes : (t : Tables) (test : State → Bool) (p : ℕ) → 1 ≤ times p (line t test) → test (state_of t p) ≡ true
unfolding line
line-passes t test p h = passes (λ x. test (state_of t x)) t.order p h

-- the first of a line stands in the row
pub line-stands : (t : Tables) (test : State → Bool) (p : ℕ) (ps : List ℕ) → line t test ≡ p ∷ ps → 1 ≤ times p t.order
unfolding line times
line-stands t test p ps e =
    let n : times p (line t test) ≡ suc (times p ps) = ap (times p) e ∙ rw (eq-eqb p p refl) in
    let m : times p (line t test) ≡ times p t.order = times-filter p (λ x. test (state_of t x)) t.order ∙ rw (line_first t test p ps e) in
    omega arith

pub line-empty : (t : Tables) (test : State → Bool) → ((p : ℕ) → test (state_of t p) ≡ false) → line t test ≡ []
unfolding line
line-empty t test h = filter-no (λ p. test (state_of t p)) t.order h

-- Past its table

pub slot-past : (t : Tables) (p : ℕ) → length t.processes ≤ p → process t p ≡ free_slot
slot-past t p h = get_or-eq_default t.processes free_slot h

pub entry_past : (t : Tables) (s : ℕ) → length t.semaphores ≤ s → semaphore t s ≡ free_semaphore
entry_past t s h = get_or-eq_default t.semaphores free_semaphore h

-- Laid tables

module _ {t : Tables} (l : Laid t) where
  -- a process that isn't free has a slot
  pub live_below : (p : ℕ) → is_free (state_of t p) ≡ false → p < process_limit
  live_below p h =
      let n : length t.processes ≡ process_limit = l.slots in
      below? p process_limit (λ k. k) (λ k. absurd (true≢false (sym (ap (λ (r : Process). is_free r.state) (slot-past t p (omega arith))) ∙ h)))

  pub live-slot : (p : ℕ) → p < process_limit → p < length t.processes
  live-slot p h = let e : length t.processes ≡ process_limit = l.slots in omega arith

  pub live-once : (p : ℕ) → p < process_limit → times p t.order ≡ 1
  live-once p h = l.order p ∙ rw (lt-ltb p process_limit h)

  -- a used semaphore has an entry
  pub used-below : (s : ℕ) → is_used t s ≡ true → s < semaphore_limit
  used-below s h =
      let n : length t.semaphores ≡ semaphore_limit = l.entries in
      below? s semaphore_limit (λ k. k) (λ k. absurd (true≢false (sym h ∙ ap (λ (x : Semaphore). x.used) (entry_past t s (omega arith)))))

  pub used-entry : (s : ℕ) → is_used t s ≡ true → s < length t.semaphores
  used-entry s h = let e : length t.semaphores ≡ semaphore_limit = l.entries in omega (arith, used-below s h)

  -- each process stands once in the line that its state names, and in no other
  pub in-line : (p : ℕ) (test : State → Bool) → p < process_limit → times p (line t test) ≡ (if test (state_of t p) then 1 else 0)
  unfolding line
  in-line p test h = times-filter p (λ x. test (state_of t x)) t.order ∙ rw (live-once p h)

  -- the same of a line that no free slot is in, for every number
  pub in-line-live : (p : ℕ) (test : State → Bool) → test Free ≡ false → times p (line t test) ≡ (if test (state_of t p) then 1 else 0)
  unfolding line
  in-line-live p test h =
      let n = l.slots in
      below? p process_limit (in-line p test)
      (λ k. times-filter p (λ x. test (state_of t x)) t.order ∙ rw (ap (λ (r : Process). test r.state) (slot-past t p (omega arith)) ∙ h))

-- The live ones

-- no more than there are slots
pub live-few : (t : Tables) → length (live t) ≤ process_limit
unfolding live
live-few t =
    let n : length (count_up 0 process_limit) ≡ process_limit = listed-length (λ i. i) 0 process_limit in
    omega (arith, length-split (is_live t) (count_up 0 process_limit), n)
