-- What only few calls change: the cursors, and the priorities. One law for all that a change of state, of the row and of a
-- semaphore's entry keeps. Assumes nothing.
use Prim.Native.Nat.{ℕ}
use mathlib.Core.Bool.{Bool, false, true≢false}
use mathlib.Core.List.{List, [], ◌∷◌}
use mathlib.Core.Logic.{◌≢◌}
use mathlib.Core.Option.{Option, none, some}
use mathlib.Core.Path.{◌≡◌, refl, sym, ap, ◌∙◌}
use lib.Dec.{ltb}
use lib.IntN.{ℤ, pos, negsuc, suc_ℤ, pred_ℤ, nat_abs}
use Rattle.lists.specs.Lists.{place, first}
use Rattle.lists.proofs.Bools.{split}
use Rattle.tables.specs.declared.State.{State}
use Rattle.tables.specs.declared.State.TheVariants.{Current, Ready, Suspended, Waiting}
use Rattle.tables.specs.declared.Process.{Process}
use Rattle.tables.specs.declared.Semaphore.{Semaphore}
use Rattle.tables.specs.declared.Tables.{Tables}
use Rattle.tables.specs.Limits.{process_limit}
use Rattle.tables.specs.States.{awaits}
use Rattle.tables.specs.Readers.{free_slot, process, state_of, priority_of, count_of, ready_list, queue, currents, current_of}
use Rattle.tables.specs.Setters.{with_order, with_process, with_semaphore, with_state, with_count}
use Rattle.tables.proofs.LineLaws.{at_other, priority-kept}
use Rattle.rules.specs.Schedule.{joining, make_ready, make_all_ready, start_first, switch, reschedule}
use Rattle.rules.specs.declared.Call.{Call}
use Rattle.rules.specs.declared.Call.TheVariants.{Wait, Signal, MakeSemaphore, Delete, Reset, MakeProcess, Resume, Suspend, Kill, Yield, Count}
use Rattle.rules.specs.Calls.{below0, outside, free_slots, Deed, uncounted, Accepted, deed, finish, step}
use Rattle.rules.proofs.Refusals.{step-cases, branch}
use Rattle.telling.specs.Telling.{MakesNothing, Spares}

-- a state, the row and a semaphore's entry have nothing to do with it
pub record Apart {A : Type 0} (f : Tables → A) : Type 0 where
  pub state : (t : Tables) (p : ℕ) (st : State) → f (with_state t p st) ≡ f t
  pub order : (t : Tables) (xs : List ℕ) → f (with_order t xs) ≡ f t
  pub entry : (t : Tables) (s : ℕ) (x : Semaphore) → f (with_semaphore t s x) ≡ f t

module _ {A : Type 0} {f : Tables → A} (k : Apart f) where
  joining-keeps : (t : Tables) (p : ℕ) (before : ℕ → Bool) (st : State) → f (joining t p before st) ≡ f t
  unfolding joining
  joining-keeps t p before st = k.state (with_order t (place before p t.order)) p st ∙ k.order t (place before p t.order)

  pub all-ready-keeps : (t : Tables) (ps : List ℕ) → f (make_all_ready t ps) ≡ f t
  unfolding make_all_ready
  all-ready-keeps t [] = refl
  all-ready-keeps t (p ∷ ps) = all-ready-keeps (make_ready t p) ps ∙ joining-keeps t p _ Ready

  start-keeps : (t : Tables) (r : List ℕ) → f (start_first t r) ≡ f t
  unfolding start_first
  start-keeps t [] = refl
  start-keeps t (p ∷ ps) = k.state t p Current

  reschedule-keeps : (t : Tables) → f (reschedule t) ≡ f t
  unfolding reschedule switch
  reschedule-keeps t = go (ready_list t) (currents t)
    where
      go : (r c : List ℕ) → f (switch t r c) ≡ f t
      go [] c = refl
      go (p ∷ ps) [] = start-keeps t (ready_list t)
      go (p ∷ ps) (c ∷ cs) =
          split (ltb (priority_of t p) (priority_of t c)) (λ b. rw b)
          (λ b. rw b (start-keeps (make_ready t c) (ready_list (make_ready t c)) ∙ joining-keeps t c _ Ready))

  finish-keeps : (d : Deed) → f (finish d).tables ≡ f d.tables
  finish-keeps d = split d.reschedules (λ b. rw b (reschedule-keeps d.tables)) (λ b. rw b)

  -- every call keeps it that neither makes nor kills
  deed-keeps : (t : Tables) (c : Call) → ((a : ℤ) → c ≡ MakeSemaphore a → f (deed t (MakeSemaphore a)).tables ≡ f t) → ((a : ℤ) → c ≡ MakeProcess a → f (deed t (MakeProcess a)).tables ≡ f t)
      → ((a : ℤ) → c ≡ Kill a → f (deed t (Kill a)).tables ≡ f t) → f (deed t c).tables ≡ f t
  deed-keeps t (Wait a) m n o =
      let s : ℕ = nat_abs a in
      branch (λ d. f d.tables ≡ f t) (below0 (pred_ℤ (count_of t s))) _ _ (λ e. joining-keeps (with_count t s (pred_ℤ (count_of t s))) (current_of t) _ (Waiting s) ∙ k.entry t s _) (λ e. k.entry t s _)
  deed-keeps t (Signal a) m n o =
      let s : ℕ = nat_abs a in
      branch (λ d. f d.tables ≡ f t) (below0 (count_of t s)) _ _ (λ e. joining-keeps (with_count t s (suc_ℤ (count_of t s))) (first (queue t s)) _ Ready ∙ k.entry t s _) (λ e. k.entry t s _)
  deed-keeps t (MakeSemaphore a) m n o = m a refl
  deed-keeps t (Delete a) m n o = all-ready-keeps _ (queue t (nat_abs a)) ∙ k.entry t (nat_abs a) _
  deed-keeps t (Reset a b) m n o = all-ready-keeps _ (queue t (nat_abs a)) ∙ k.entry t (nat_abs a) _
  deed-keeps t (MakeProcess a) m n o = n a refl
  deed-keeps t (Resume a) m n o = joining-keeps t (nat_abs a) _ Ready
  deed-keeps t (Suspend a) m n o = k.state t (nat_abs a) Suspended
  deed-keeps t (Kill a) m n o = o a refl
  deed-keeps t Yield m n o = refl
  deed-keeps t (Count a) m n o = refl

  step_keeps : (t : Tables) (c : Call) → (Accepted t c → f (deed t c).tables ≡ f t) → f (step t c).tables ≡ f t
  step_keeps t c h = step-cases t (λ o. f o.tables ≡ f t) (λ n. refl) c (λ a. finish-keeps (deed t c) ∙ h a)

-- The cursors

abbrev cursors : Tables → ℕ × ℕ
cursors t = (t.next_semaphore, t.next_process)

cursors-apart : Apart cursors
cursors-apart = record { state = λ t p st. refl; order = λ t xs. refl; entry = λ t s x. refl }

kill-cursors : (t : Tables) (p : ℕ) (w : Option ℕ) → cursors (with_process (uncounted t w) p free_slot) ≡ cursors t
kill-cursors t p none = refl
kill-cursors t p (some s) = refl

-- no call but a make moves a cursor
pub cursors-kept : (t : Tables) (c : Call) → MakesNothing c → ((step t c).tables.next_semaphore ≡ t.next_semaphore) × ((step t c).tables.next_process ≡ t.next_process)
cursors-kept t c h =
    let e : cursors (step t c).tables ≡ cursors t =
    step_keeps cursors-apart t c
    (λ k. deed-keeps cursors-apart t c (λ a e. absurd (h.semaphore a e)) (λ a e. absurd (h.process a e))
    (λ a e. kill-cursors t (nat_abs a) (awaits (state_of t (nat_abs a))))) in
    (ap (λ (x : ℕ × ℕ). x.0) e, ap (λ (x : ℕ × ℕ). x.1) e)

-- The priority of a process

pub priority-apart : (x : ℕ) → Apart (λ t. priority_of t x)
priority-apart x = record { state = λ t p st. priority-kept t p st x; order = λ t xs. refl; entry = λ t s y. refl }

-- a slot that isn't the one killed
pub kill-spares : (t : Tables) (p : ℕ) (w : Option ℕ) (x : ℕ) → x ≢ p → process (with_process (uncounted t w) p free_slot) x ≡ process t x
kill-spares t p none x h = at_other t p free_slot x h
kill-spares t p (some s) x h = at_other (with_count t s (suc_ℤ (count_of t s))) p free_slot x h

-- who isn't named isn't the one that the argument stands for
pub not_named : (limit : ℕ) (call : ℤ → Call) (a : ℤ) (x : ℕ) → outside limit a ≡ false → call a ≢ call (pos x) → x ≢ nat_abs a
not_named limit call (pos p) x h n e = n (ap (λ (i : ℕ). call (pos i)) (sym e))
not_named limit call (negsuc p) x h n e = true≢false h

-- no priority changes but by a make or a kill
pub priority-stays : (t : Tables) (c : Call) (x : ℕ) → Spares t c x → priority_of (step t c).tables x ≡ priority_of t x
priority-stays t c x s =
    step_keeps (priority-apart x) t c
    (λ k. deed-keeps (priority-apart x) t c (λ a e. refl)
    (λ a e. ap (λ (r : Process). r.priority) (at_other t (first (free_slots t)) _ x (s.unmade a e)))
    (λ a e.
    let other : x ≢ nat_abs a = not_named process_limit Kill a x (rw e at k).0 (λ d. s.unkilled (e ∙ d)) in
    ap (λ (r : Process). r.priority) (kill-spares t (nat_abs a) (awaits (state_of t (nat_abs a))) x other)))
