-- Which calls lower a count: a wait that is accepted, a delete and a reset, and no other. Assumes nothing.
use Prim.Native.Nat.{ℕ, suc, zero}
use native.Mathlib.Omega.{arith}
use mathlib.Core.Bool.{Bool, false, true≢false}
use mathlib.Core.List.{List}
use mathlib.Core.Logic.{◌≢◌}
use mathlib.Core.Option.{Option, none, some}
use mathlib.Core.Path.{◌∙◌, ◌≡◌, ap, refl, sym}
use lib.IntN.{ℤ, nat_abs, negsuc, pos, suc_ℤ}
use lib.Signed.{◌≤ℤ◌, ≤ℤ_refl}
use borrow.Author.Tests.{le-leb}
use Rattle.lists.specs.Lists.{first}
use Rattle.lists.proofs.Bools.{either, not-true}
use Rattle.lists.proofs.Exactly.{tests-le_z}
use Rattle.tables.specs.declared.Tables.{Tables}
use Rattle.tables.specs.Limits.{semaphore_limit}
use Rattle.tables.specs.Readers.{count_of, is_used, state_of}
use Rattle.tables.specs.Sound.{Sound}
use Rattle.tables.specs.States.{awaits}
use Rattle.rules.specs.declared.Call.{Call}
use Rattle.rules.specs.declared.Call.TheVariants.{Wait, Signal, MakeSemaphore, Delete, Reset, MakeProcess, Resume, Suspend, Kill, Yield, Count}
use Rattle.rules.specs.Calls.{Accepted, below0, deed, finish, free_semaphores, outside, step}
use Rattle.rules.specs.Seen.{Seen}
use Rattle.rules.proofs.Changes.{Loses, call-changes, passed-number}
use Rattle.rules.proofs.Effects.{Effect, settled-seen}
use Rattle.rules.proofs.Found.{semaphore-found}
use Rattle.rules.proofs.Refusals.{step-cases}
use Rattle.rules.proofs.Resched.{Settled}
use Rattle.telling.specs.Telling.{CountGoesOn}

one_more : (c : ℤ) → c ≤ℤ suc_ℤ c
one_more (pos n) = (tests-le_z (pos n) (pos (suc n))).0 (le-leb n (suc n) (omega arith))
one_more (negsuc zero) = (tests-le_z (negsuc 0) (pos 0)).0 refl
one_more (negsuc (suc n)) = (tests-le_z (negsuc (suc n)) (negsuc n)).0 (le-leb n (suc n) (omega arith))

at_least_0 : (c : ℤ) → below0 c ≡ false → pos 0 ≤ℤ c
at_least_0 (pos n) h = (tests-le_z (pos 0) (pos n)).0 (le-leb 0 n (omega arith))
at_least_0 (negsuc n) h = absurd (true≢false h)

-- a call that names semaphore s is the call on s
names : (call : ℤ → Call) (a : ℤ) (s : ℕ) → outside semaphore_limit a ≡ false → s ≡ nat_abs a → call a ≡ call (pos s)
names call a s h e = ap call (passed-number semaphore_limit a h) ∙ ap (λ (n : ℕ). call (pos n)) (sym e)

module _ (t : Tables) where
  settled-stands : {t' : Tables} → Settled t t' → (s : ℕ) → count_of t s ≤ℤ count_of t' s
  settled-stands g s = rw (ap (λ (x : Seen). x.count) (settled-seen g s)) (≤ℤ_refl (count_of t s))

  -- one semaphore is seen anew, and its count isn't lower
  effect-stands : {t' : Tables} {r : ℕ} {u : Bool} {c : ℤ} {q : List ℕ} → Effect t t' r u c q → (s : ℕ) → (s ≡ r → count_of t r ≤ℤ c) → count_of t s ≤ℤ count_of t' s
  effect-stands {r = r} E s h =
      either s r
      (λ e. rw (e, ap (λ (x : Seen). x.count) E.here) (h e))
      (λ d. rw (ap (λ (x : Seen). x.count) (E.elsewhere s d)) (≤ℤ_refl (count_of t s)))

  loses-stands : (t' : Tables) (p : ℕ) (w : Option ℕ) → Loses t p w t' → (s : ℕ) → count_of t s ≤ℤ count_of t' s
  loses-stands t' p none g s = settled-stands g s
  loses-stands t' p (some r) E s = effect-stands E s (λ e. one_more (count_of t r))

module _ {t : Tables} (S : Sound t) where
  -- a semaphore that is made had count 0
  made-stands : (a : ℤ) → Accepted t (MakeSemaphore a) → count_of t (first (free_semaphores t)) ≤ℤ a
  made-stands a k = rw (S.queued.unused (first (free_semaphores t)) (not-true (is_used t (first (free_semaphores t))) (semaphore-found S k.1.0).passes)) (at_least_0 a k.0)

  done-stands : (c : Call) (s : ℕ) → CountGoesOn c s → c ≢ Wait (pos s) → Accepted t c → count_of t s ≤ℤ count_of (finish (deed t c)).tables s
  done-stands (Wait a) s g w k = effect-stands t (call-changes S (Wait a) k).1 s (λ e. absurd (w (names Wait a s k.0 e)))
  done-stands (Signal a) s g w k = effect-stands t (call-changes S (Signal a) k).1 s (λ e. one_more (count_of t (nat_abs a)))
  done-stands (MakeSemaphore a) s g w k = effect-stands t (call-changes S (MakeSemaphore a) k).1 s (λ e. made-stands a k)
  done-stands (Delete a) s g w k = effect-stands t (call-changes S (Delete a) k).1 s (λ e. absurd (g.undeleted (names Delete a s k.0 e)))
  done-stands (Reset a b) s g w k = effect-stands t (call-changes S (Reset a b) k).1 s (λ e. absurd (g.unreset b (names (λ n. Reset n b) a s k.1.0 e)))
  done-stands (MakeProcess a) s g w k = settled-stands t (call-changes S (MakeProcess a) k).1 s
  done-stands (Resume a) s g w k = settled-stands t (call-changes S (Resume a) k).1 s
  done-stands (Suspend a) s g w k = settled-stands t (call-changes S (Suspend a) k).1 s
  done-stands (Kill a) s g w k = loses-stands t (finish (deed t (Kill a))).tables (nat_abs a) (awaits (state_of t (nat_abs a))) (call-changes S (Kill a) k).1 s
  done-stands Yield s g w k = settled-stands t (call-changes S Yield k).1 s
  done-stands (Count a) s g w k = settled-stands t (call-changes S (Count a) k).1 s

  pub step-stands : (c : Call) (s : ℕ) → CountGoesOn c s → (Accepted t c → c ≢ Wait (pos s)) → count_of t s ≤ℤ count_of (step t c).tables s
  step-stands c s g w = step-cases t (λ o. count_of t s ≤ℤ count_of o.tables s) (λ n. ≤ℤ_refl (count_of t s)) c (λ k. done-stands c s g (w k) k)
