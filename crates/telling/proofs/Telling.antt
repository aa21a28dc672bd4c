-- What the laws of Told share: how a call's effect and its seats make what is told of it. Assumes nothing.
use Prim.Native.Nat.{ℕ, ◌<◌}
use mathlib.Core.Bool.{Bool, false}
use mathlib.Core.List.{List, [], ◌∷◌}
use mathlib.Core.Option.{Option, none, some}
use mathlib.Core.Path.{◌≡◌, refl, sym, ap, ◌∙◌}
use lib.IntN.{ℤ, pos, suc_ℤ}
use lib.ListN.{length}
use Rattle.lists.specs.Lists.{is_empty, first}
use Rattle.tables.specs.declared.State.TheVariants.{Free, Current}
use Rattle.tables.specs.declared.Process.{Process}
use Rattle.tables.specs.declared.Semaphore.{Semaphore}
use Rattle.tables.specs.declared.Tables.{Tables}
use Rattle.tables.specs.Limits.{process_limit}
use Rattle.tables.specs.States.{is_current, is_ready, awaits}
use Rattle.tables.specs.Readers.{free_slot, process, state_of, priority_of, count_of, currents}
use Rattle.tables.specs.Setters.{with_process, with_count}
use Rattle.tables.specs.Sound.{Sound}
use Rattle.tables.proofs.States.{is_free_lem}
use Rattle.tables.proofs.LineLaws.{line-absent, live-slot}
use Rattle.tables.proofs.Sentences.{current-only, current-unique}
use Rattle.rules.specs.declared.Answer.TheVariants.{Done}
use Rattle.rules.specs.declared.Outcome.{Outcome}
use Rattle.rules.specs.declared.Call.{Call}
use Rattle.rules.specs.declared.Call.TheVariants.{MakeSemaphore, MakeProcess, Suspend, Kill}
use Rattle.rules.specs.Calls.{outside, free_semaphores, free_slots, stop, uncounted, Accepted, deed, finish, step}
use Rattle.telling.specs.Telling.{Seats, seats, Changes, Keeps}
use Rattle.rules.proofs.Resched.{Settled, Prepared}
use Rattle.rules.proofs.Effects.{Effect, settled-seen}
use Rattle.rules.proofs.Slots.{suspend-prepared, free-prepared}
use Rattle.rules.proofs.Found.{slot-found}
use Rattle.rules.proofs.Refusals.{step-done}
use Rattle.rules.proofs.Changes.{untouched, rewritten, change_of, Loses, below-limit, not_null, call-changes, kill-loses}
use Rattle.telling.proofs.Seats.{seats-set}
use Rattle.telling.proofs.Others.{slot-stopped}

module _ {t : Tables} (S : Sound t) where
  -- a call that changes how one semaphore is seen
  pub tell-changes : {o : Outcome} {v : ℤ} {s : ℕ} {u : Bool} {c : ℤ} {q : List ℕ} {y : Seats} (x : Call) → step t x ≡ o → o.answer ≡ Done v → Effect t o.tables s u c q → seats o.tables ≡ y
      → Changes t (step t x) v s (record { used = u; count = c; waiters = q }) y
  tell-changes x e d E h = rw e (record { value = d; here = E.here; elsewhere = E.elsewhere; seated = h })

  -- one that changes none
  pub tell-keeps : {o : Outcome} {v : ℤ} {y : Seats} (x : Call) → step t x ≡ o → o.answer ≡ Done v → Settled t o.tables → seats o.tables ≡ y → Keeps t (step t x) v y
  tell-keeps x e d g h = rw e (record { value = d; everywhere = settled-seen g; seated = h })

  -- an accepted call, by its change: it leaves all as they are seen, or writes one semaphore anew

  pub did-keep : (x : Call) (k : Accepted t x) {y : Seats} → change_of t x ≡ untouched → seats (finish (deed t x)).tables ≡ y → Keeps t (step t x) (deed t x).value y
  did-keep x k e = tell-keeps x (step-done t x k) refl (rw e at (call-changes S x k).1)

  pub did-rewrite : (x : Call) (k : Accepted t x) (s : ℕ) (z : Semaphore) {y : Seats} → change_of t x ≡ rewritten s z → seats (finish (deed t x)).tables ≡ y
      → Changes t (step t x) (deed t x).value s (record { used = z.used; count = z.count; waiters = [] }) y
  did-rewrite x k s z e = tell-changes x (step-done t x k) refl (rw e at (call-changes S x k).1)

  pub only-current : (p : ℕ) → state_of t p ≡ Current → currents t ≡ p ∷ []
  only-current p h = current-only S.running ∙ ap (λ (c : ℕ). c ∷ []) (current-unique S p (ap is_current h))

  -- the number answered by a make is the one that is found

  pub made-semaphore : (a : ℤ) (s : ℕ) → Accepted t (MakeSemaphore a) → (step t (MakeSemaphore a)).answer ≡ Done (pos s) → first (free_semaphores t) ≡ s
  made-semaphore a s k e = let d : Done (pos (first (free_semaphores t))) ≡ Done (pos s) = sym (ap (λ (o : Outcome). o.answer) (step-done t (MakeSemaphore a) k)) ∙ e in cc

  pub made-process : (a : ℤ) (p : ℕ) → Accepted t (MakeProcess a) → (step t (MakeProcess a)).answer ≡ Done (pos p) → first (free_slots t) ≡ p
  made-process a p k e = let d : Done (pos (first (free_slots t))) ≡ Done (pos p) = sym (ap (λ (o : Outcome). o.answer) (step-done t (MakeProcess a) k)) ∙ e in cc

  pub slot-seats : (y : Process) → is_ready y.state ≡ false → is_current y.state ≡ false → is_empty (free_slots t) ≡ false → seats (with_process t (first (free_slots t)) y) ≡ seats t
  slot-seats y hr hc h =
      let f = slot-found S h in
      let p : ℕ = first (free_slots t) in
      let e : state_of t p ≡ Free = is_free_lem (state_of t p) f.passes in
      seats-set t p y (live-slot S.laid p f.below) hr hc ∙ rw (line-absent t p is_ready (ap is_ready e), line-absent t p is_current (ap is_current e))

  -- a process that stops

  pub slot_of : (p : ℕ) → outside process_limit (pos p) ≡ false → p < length t.processes
  slot_of p h = live-slot S.laid p (below-limit process_limit (pos p) h)

  pub suspending : (p : ℕ) → Accepted t (Suspend (pos p)) → Prepared (deed t (Suspend (pos p)))
  suspending p k = suspend-prepared S p (below-limit process_limit (pos p) k.0) (not_null p k.1.0) k.1.1.0 (pos (priority_of t p))

  pub killing : (p : ℕ) → Accepted t (Kill (pos p)) → Prepared (stop (pos 1) t p free_slot)
  killing p k = free-prepared S p (below-limit process_limit (pos p) k.0) (not_null p k.1.0) (pos 1)

  -- a kill by the semaphore, if any, that the process waits on

  pub kill-step : (p : ℕ) → Accepted t (Kill (pos p)) → (w : Option ℕ) → awaits (state_of t p) ≡ w → step t (Kill (pos p)) ≡ finish (stop (pos 1) (uncounted t w) p free_slot)
  kill-step p k w e = step-done t (Kill (pos p)) k ∙ ap (λ (z : Option ℕ). finish (stop (pos 1) (uncounted t z) p free_slot)) e

  pub kill-did : (p : ℕ) → Accepted t (Kill (pos p)) → (w : Option ℕ) → awaits (state_of t p) ≡ w → Loses t p w (finish (stop (pos 1) (uncounted t w) p free_slot)).tables
  kill-did p k w e = kill-loses S p w e (below-limit process_limit (pos p) k.0) (not_null p k.1.0)

  pub kill-keeps : (p : ℕ) → Accepted t (Kill (pos p)) → awaits (state_of t p) ≡ none → {y : Seats} → seats (finish (stop (pos 1) t p free_slot)).tables ≡ y → Keeps t (step t (Kill (pos p))) (pos 1) y
  kill-keeps p k e = tell-keeps (Kill (pos p)) (kill-step p k none e) refl (kill-did p k none e)

  pub kill-frees : (p : ℕ) → outside process_limit (pos p) ≡ false → (w : Option ℕ) → process (finish (stop (pos 1) (uncounted t w) p free_slot)).tables p ≡ free_slot
  kill-frees p h none = slot-stopped (pos 1) t p free_slot (slot_of p h) refl refl
  kill-frees p h (some s) = slot-stopped (pos 1) (with_count t s (suc_ℤ (count_of t s))) p free_slot (slot_of p h) refl refl
