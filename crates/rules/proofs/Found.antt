-- A free slot or entry is taken. Assumes nothing.
use Prim.Native.Nat.{ℕ, suc, ◌≤◌, ◌<◌}
use native.Mathlib.Omega.{arith}
use mathlib.Core.Bool.{Bool, true, false, not, false≢true}
use mathlib.Core.List.{[]}
use mathlib.Core.Logic.{◌≢◌}
use mathlib.Core.Path.{◌≡◌, refl, sym, ap, ◌∙◌}
use lib.IntN.{ℤ}
use lib.ListN.{length}
use borrow.Author.Tests.{eq-eqb, ne_eqb}
use Rattle.lists.specs.Lists.{is_empty, first}
use Rattle.lists.specs.Numbers.{FirstFrom}
use Rattle.lists.proofs.Bools.{not-true, either}
use Rattle.lists.proofs.RoundLaws.{round-found}
use Rattle.tables.specs.declared.State.{State}
use Rattle.tables.specs.declared.Process.{Process}
use Rattle.tables.specs.declared.Semaphore.{Semaphore}
use Rattle.tables.specs.declared.Tables.{Tables}
use Rattle.tables.specs.Limits.{process_limit, semaphore_limit, priority_limit}
use Rattle.tables.specs.States.{is_free, is_current, waits_on}
use Rattle.tables.specs.Readers.{state_of, is_used, line, queue}
use Rattle.tables.specs.Setters.{new_slot, with_cursors, with_process, with_semaphore}
use Rattle.tables.specs.Sound.{Laid, Running, Sound}
use Rattle.tables.proofs.SlotLaws.{new-sound}
use Rattle.tables.proofs.States.{is_free_lem}
use Rattle.tables.specs.declared.State.TheVariants.{Free}
use Rattle.rules.specs.Calls.{free_semaphores, free_slots, one_past, new_semaphore, new_process}
use Rattle.rules.proofs.Resched.{Settled, line_kept}
use Rattle.rules.proofs.Effects.{Effect, line-entry, laid_kept, laid-entry, running-entry, effect-entry}
use Rattle.rules.proofs.Slots.{set-moved, laid-set, running-set}

pub laid-cursors : {t : Tables} → Laid t → (s p : ℕ) → s < semaphore_limit → p < process_limit → Laid (with_cursors t s p)
laid-cursors {t} l s p hs hp = laid_kept l t.semaphores s p l.entries hs hp

pub running-cursors : {t : Tables} → Running t → (s p : ℕ) → Running (with_cursors t s p)
unfolding line
running-cursors r s p = record { one = r.one; zero = r.zero; top = r.top }

pub line-cursors : (t : Tables) (s p : ℕ) (test : State → Bool) → line (with_cursors t s p) test ≡ line t test
unfolding line
line-cursors t s p test = refl

pub past-below : (size n : ℕ) → n < size → one_past size n < size
past-below size n h = either (suc n) size (λ e. rw (eq-eqb (suc n) size e) (omega arith)) (λ d. rw (ne_eqb (suc n) size d) (omega arith))

module _ {t : Tables} (S : Sound t) where
  -- the first free slot or entry from the cursor on, going round

  pub slot-found : is_empty (free_slots t) ≡ false → FirstFrom (λ p. is_free (state_of t p)) process_limit t.next_process (first (free_slots t))
  slot-found h = round-found (λ p. is_free (state_of t p)) process_limit t.next_process S.laid.cursors.1 h

  pub semaphore-found : is_empty (free_semaphores t) ≡ false → FirstFrom (λ s. not (is_used t s)) semaphore_limit t.next_semaphore (first (free_semaphores t))
  semaphore-found h = round-found (λ s. not (is_used t s)) semaphore_limit t.next_semaphore S.laid.cursors.0 h

  pub make-process-settled : (n : ℕ) → (1 ≤ n) × (n ≤ priority_limit) → is_empty (free_slots t) ≡ false → Settled t (new_process t (first (free_slots t)) n).tables
  make-process-settled n hn h =
      let p : ℕ = first (free_slots t) in
      let y : Process = new_slot n in
      let free : state_of t p ≡ Free = is_free_lem (state_of t p) (slot-found h).passes in
      let below : p < process_limit = (slot-found h).below in
      let hz : 0 ≢ p = λ e. false≢true (sym (rw (e, free)) ∙ S.running.zero) in
      record {
        laid = laid-cursors (laid-set S.laid p below y refl (new-sound p n (λ e. hz (sym e)) hn)) t.next_semaphore (one_past process_limit p) S.laid.cursors.0 (past-below process_limit p below);
        running = running-cursors (running-set S.laid p below y refl hz S.running (ap is_current free) refl) t.next_semaphore (one_past process_limit p);
        semaphores = refl;
        queues = λ r. line-cursors (with_process t p y) t.next_semaphore (one_past process_limit p) (waits_on r) ∙ line_kept (set-moved S.laid p below y refl) (waits_on r) refl (ap (waits_on r) free);
      }

  pub make-semaphore-effect : (c : ℤ) → is_empty (free_semaphores t) ≡ false → Effect t (new_semaphore t (first (free_semaphores t)) c).tables (first (free_semaphores t)) true c []
  make-semaphore-effect c h =
      let s : ℕ = first (free_semaphores t) in
      let x : Semaphore = record { used = true; count = c } in
      let below : s < semaphore_limit = (semaphore-found h).below in
      let long : length t.semaphores ≡ semaphore_limit = S.laid.entries in
      let seen : (r : ℕ) → queue (new_semaphore t s c).tables r ≡ queue t r =
      λ r. line-cursors (with_semaphore t s x) (one_past semaphore_limit s) t.next_process (waits_on r) ∙ line-entry t s x (waits_on r) in
      let empty : queue t s ≡ [] = rw (S.queued.unused s (not-true (is_used t s) (semaphore-found h).passes)) at (S.queued.counted s) in
      effect-entry s x (omega arith) (laid-cursors (laid-entry S.laid s x) (one_past semaphore_limit s) t.next_process (past-below semaphore_limit s below) S.laid.cursors.1)
      (running-cursors (running-entry S.running s x) (one_past semaphore_limit s) t.next_process) refl
      (seen s ∙ empty) (λ r k. seen r)
