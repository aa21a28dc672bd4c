-- What each call changes in the semaphores as they are seen, when no check holds: nothing, or one of four changes. Assumes nothing.
use Rattle.std.specs.Prelude.{if◌then◌else◌}
use Prim.Native.Nat.{ℕ, ◌≤◌, ◌<◌}
use mathlib.Core.Bool.{Bool, true, false, not, ◌||◌, true≢false}
use mathlib.Core.List.{List, [], ◌∷◌, ◌++◌}
use mathlib.Core.Logic.{◌≢◌}
use mathlib.Core.Option.{Option, none, some}
use mathlib.Core.Path.{◌≡◌, refl, sym, ap, subst}
use lib.Dec.{eqb, ltb}
use lib.IntN.{ℤ, pos, negsuc, suc_ℤ, pred_ℤ, nat_abs}
use lib.ListN.{drop}
use lib.Signed.{lt_z, le_z}
use borrow.Author.Tests.{ltb-false, eqb-false, leb-false}
use Rattle.lists.specs.Lists.{without, first}
use Rattle.lists.proofs.Bools.{not-false, split}
use Rattle.tables.specs.declared.State.{State}
use Rattle.tables.specs.declared.State.TheVariants.{Waiting}
use Rattle.tables.specs.declared.Semaphore.{Semaphore}
use Rattle.tables.specs.declared.Tables.{Tables}
use Rattle.tables.specs.Limits.{process_limit, priority_limit}
use Rattle.tables.specs.States.{is_current, is_ready, is_suspended, awaits, is_the}
use Rattle.tables.specs.Readers.{free_slot, free_semaphore, state_of, priority_of, is_used, count_of, queue, current_of}
use Rattle.tables.specs.Sound.{Counted, Sound}
use Rattle.tables.proofs.States.{is-suspended, awaits-some, runs-no-waiter}
use Rattle.tables.proofs.Sentences.{waiter-used}
use Rattle.rules.specs.declared.Call.{Call}
use Rattle.rules.specs.declared.Call.TheVariants.{Wait, Signal, MakeSemaphore, Delete, Reset, MakeProcess, Resume, Suspend, Kill, Yield, Count}
use Rattle.rules.specs.Calls.{Accepted, below0, outside, largest, free_semaphores, stop, uncounted, deed, finish}
use Rattle.rules.proofs.Resched.{Settled, settled-still}
use Rattle.rules.proofs.Effects.{Effect}
use Rattle.rules.proofs.WaitSignal.{wait-effect, signal-effect}
use Rattle.rules.proofs.Release.{release-effect}
use Rattle.rules.proofs.Slots.{suspend-settled, free-settled, kill-waiter, resume-settled, yield-settled}
use Rattle.rules.proofs.Found.{make-process-settled, make-semaphore-effect}

pub data Change : Type 0 where
  untouched : Change
  -- count minus 1, and the caller may wait; count plus 1, and the head may be released
  lowered raised : ℕ → Change
  -- the entry is written anew, and nobody waits
  rewritten : ℕ → Semaphore → Change
  -- the semaphore that the process waits on, if any, loses it
  loses : ℕ → Change

abbrev pub change_of : Tables → Call → Change
change_of t (Wait a) = lowered (nat_abs a)
change_of t (Signal a) = raised (nat_abs a)
change_of t (MakeSemaphore a) = rewritten (first (free_semaphores t)) (record { used = true; count = a })
change_of t (Delete a) = rewritten (nat_abs a) free_semaphore
change_of t (Reset a b) = rewritten (nat_abs a) (record { used = true; count = b })
change_of t (MakeProcess a) = untouched
change_of t (Resume a) = untouched
change_of t (Suspend a) = untouched
change_of t (Kill a) = loses (nat_abs a)
change_of t Yield = untouched
change_of t (Count a) = untouched

-- t' is t without p, who waited on this semaphore or on none
abbrev pub Loses : Tables → ℕ → Option ℕ → Tables → Type 0
Loses t p none t' = Settled t t'
Loses t p (some s) t' = Effect t t' s true (suc_ℤ (count_of t s)) (without p (queue t s))

-- t' is t with that change
abbrev pub Becomes : Tables → Change → Tables → Type 0
Becomes t untouched t' = Settled t t'
Becomes t (lowered s) t' = Effect t t' s true (pred_ℤ (count_of t s)) (if below0 (pred_ℤ (count_of t s)) then queue t s ++ current_of t ∷ [] else queue t s)
Becomes t (raised s) t' = Effect t t' s true (suc_ℤ (count_of t s)) (if below0 (count_of t s) then drop 1 (queue t s) else queue t s)
Becomes t (rewritten s x) t' = Effect t t' s x.used x.count []
Becomes t (loses p) t' = Loses t p (awaits (state_of t p)) t'

-- what a call's checks leave of the semaphore that it changes
abbrev pub Allowed : Tables → Change → Type 0
Allowed t untouched = Unit
Allowed t (lowered s) = is_used t s ≡ true
Allowed t (raised s) = (is_used t s ≡ true) × (le_z largest (count_of t s) ≡ false)
Allowed t (rewritten s x) = Counted x.count [] × (x.used ≡ false → x.count ≡ pos 0)
Allowed t (loses p) = Unit

-- Arguments that passed

pub below-limit : (limit : ℕ) (a : ℤ) → outside limit a ≡ false → nat_abs a < limit
below-limit limit (pos n) h = leb-false limit n h
below-limit limit (negsuc n) h = absurd (true≢false h)

pub passed-number : (limit : ℕ) (a : ℤ) → outside limit a ≡ false → a ≡ pos (nat_abs a)
passed-number limit (pos n) h = refl
passed-number limit (negsuc n) h = absurd (true≢false h)

priority-in-range : (a : ℤ) → (lt_z a (pos 1) || lt_z (pos priority_limit) a) ≡ false → (1 ≤ nat_abs a) × (nat_abs a ≤ priority_limit)
priority-in-range (pos n) h =
    split (ltb n 1) (λ d. absurd (true≢false (rw d at h)))
    (λ d. split (ltb priority_limit n) (λ e. absurd (true≢false (rw (d, e) at h))) (λ e. (ltb-false n 1 d, ltb-false priority_limit n e)))
priority-in-range (negsuc n) h = absurd (true≢false h)

pub not_null : (p : ℕ) → eqb p 0 ≡ false → 0 ≢ p
not_null p h e = eqb-false p 0 h (sym e)

count-at-least-0 : (c : ℤ) → below0 c ≡ false → Counted c []
count-at-least-0 (pos n) h = refl
count-at-least-0 (negsuc n) h = absurd (true≢false h)

pub used : (t : Tables) (s : ℕ) → not (is_used t s) ≡ false → is_used t s ≡ true
used t s h = not-false (is_used t s) h

-- a semaphore in use is still used
still : {t t' : Tables} {s : ℕ} {c : ℤ} {q : List ℕ} → is_used t s ≡ true → Effect t t' s (is_used t s) c q → Effect t t' s true c q
still {t} {t'} {s} {c} {q} u E = subst (λ (b : Bool). Effect t t' s b c q) u E

module _ {t : Tables} (S : Sound t) where
  pub kill-loses : (p : ℕ) (w : Option ℕ) → awaits (state_of t p) ≡ w → p < process_limit → 0 ≢ p → Loses t p w (finish (stop (pos 1) (uncounted t w) p free_slot)).tables
  kill-loses p none e below hz = free-settled S p below hz (λ r. ap (is_the r) e) (pos 1)
  kill-loses p (some s) e below hz = let h : state_of t p ≡ Waiting s = awaits-some (state_of t p) s e in still (waiter-used S p s h) (kill-waiter S p s hz h (pos 1))

  -- every call makes its change, and is allowed to
  pub call-changes : (c : Call) → Accepted t c → Allowed t (change_of t c) × Becomes t (change_of t c) (finish (deed t c)).tables
  call-changes (Wait a) (h, (k, (m, z))) = let u = used t (nat_abs a) k in (u, still u (wait-effect S (nat_abs a) u (not_null (current_of t) m)))
  call-changes (Signal a) (h, (k, (m, z))) = let u = used t (nat_abs a) k in ((u, m), still u (signal-effect S (nat_abs a) u))
  call-changes (MakeSemaphore a) (h, (k, z)) = ((count-at-least-0 a h, λ e. absurd (true≢false e)), make-semaphore-effect S a k)
  call-changes (Delete a) (h, (k, z)) = ((refl, λ e. refl), release-effect S (nat_abs a) free_semaphore (used t (nat_abs a) k))
  call-changes (Reset a b) (h, (m, (k, z))) = ((count-at-least-0 b h, λ e. absurd (true≢false e)), release-effect S (nat_abs a) _ (used t (nat_abs a) k))
  call-changes (MakeProcess a) (h, (k, z)) = (tt, make-process-settled S (nat_abs a) (priority-in-range a h) k)
  call-changes (Resume a) (h, (k, (m, z))) = (tt, resume-settled S (nat_abs a) (is-suspended (state_of t (nat_abs a)) (not-false (is_suspended (state_of t (nat_abs a))) m)) (pos (priority_of t (nat_abs a))))
  call-changes (Suspend a) (h, (n, (k, (m, z)))) =
      let p : ℕ = nat_abs a in
      let st : State = state_of t p in
      (tt, suspend-settled S p (below-limit process_limit a h) (not_null p n) k (λ r. runs-no-waiter st r (not-false (is_ready st || is_current st) m)) (pos (priority_of t p)))
  call-changes (Kill a) (h, (n, z)) = (tt, kill-loses (nat_abs a) (awaits (state_of t (nat_abs a))) refl (below-limit process_limit a h) (not_null (nat_abs a) n))
  call-changes Yield z = (tt, yield-settled S (pos 1))
  call-changes (Count a) z = (tt, settled-still S.laid S.running)
