-- Every call keeps the counts within 32 bits, and its value is within them too. Assumes nothing.
use Prim.Native.Nat.{◌<◌, suc, zero, ℕ}
use native.Mathlib.Omega.{arith}
use mathlib.Core.Bool.{Bool, false}
use mathlib.Core.List.{List}
use mathlib.Core.Option.{Option, none, some}
use mathlib.Core.Path.{◌≡◌, ap, refl, subst, sym}
use lib.IntN.{nat_abs, negsuc, pos, pred_ℤ, suc_ℤ, ℤ}
use lib.ListN.{length}
use lib.Signed.{le_z}
use mir.Syntax.{w32}
use mir.Val.{SFits}
use borrow.Author.Tests.{leb-false}
use Rattle.lists.specs.Lists.{first, times}
use Rattle.tables.specs.declared.Semaphore.{Semaphore}
use Rattle.tables.specs.declared.Tables.{Tables}
use Rattle.tables.specs.Limits.{process_limit}
use Rattle.tables.specs.States.{awaits}
use Rattle.tables.specs.Readers.{count_of, priority_of, process, queue, state_of}
use Rattle.tables.specs.Boot.{boot}
use Rattle.tables.specs.Sound.{Counted, Sound}
use Rattle.tables.specs.Counts.{CountsFit}
use Rattle.lists.proofs.Bools.{either}
use Rattle.lists.proofs.ListLaws.{times-empty}
use Rattle.tables.proofs.States.{awaits-some}
use Rattle.tables.proofs.SlotLaws.{priority-top}
use Rattle.tables.proofs.Sentences.{few-wait, sentences}
use Rattle.tables.proofs.BootLaws.{entry-boot}
use Rattle.rules.specs.Answers.{value_of}
use Rattle.rules.specs.declared.Call.{Call}
use Rattle.rules.specs.declared.Call.TheVariants.{Wait, Signal, MakeSemaphore, Delete, Reset, MakeProcess, Resume, Suspend, Kill, Yield, Count}
use Rattle.rules.specs.Calls.{Accepted, below0, largest, free_semaphores, free_slots, deed, finish, step}
use Rattle.rules.specs.Enter.{Form, forms, call_of, numbered}
use Rattle.rules.proofs.Resched.{Settled}
use Rattle.rules.proofs.Effects.{Effect, settled-seen}
use Rattle.rules.proofs.Found.{slot-found, semaphore-found}
use Rattle.rules.proofs.Refusals.{step-cases, branch, numbered-cases, AllFrom, number-has}
use Rattle.rules.proofs.Changes.{Change, untouched, lowered, raised, rewritten, loses, change_of, Loses, Becomes, Allowed, call-changes}
use Rattle.rules.specs.Seen.{Seen}

small : (n : ℕ) → n < 2147483648 → SFits w32 (pos n)
small n h = record { sfits = h }

pub fits-boot : CountsFit boot
fits-boot = (λ s. rw (ap (λ (x : Semaphore). x.count) (entry-boot s)) (small 0 (omega arith)))

-- one less, where fewer wait than there are processes
lowered-fits : (c : ℤ) (q : List ℕ) → SFits w32 c → Counted c q → length q < process_limit → SFits w32 (pred_ℤ c)
lowered-fits (pos zero) q f h k = record { sfits = omega arith }
lowered-fits (pos (suc n)) q f h k = let m : suc n < 2147483648 = f.sfits in record { sfits = omega arith }
lowered-fits (negsuc n) q f h k = record { sfits = omega arith }

-- one more, where it isn't the largest
raised-fits : (c : ℤ) → SFits w32 c → le_z largest c ≡ false → SFits w32 (suc_ℤ c)
raised-fits (pos n) f h = let m : n < 2147483647 = leb-false 2147483647 n h in record { sfits = omega arith }
raised-fits (negsuc zero) f h = record { sfits = omega arith }
raised-fits (negsuc (suc n)) f h = let m : suc n < 2147483648 = f.sfits in record { sfits = omega arith }

waited-on : (c : ℤ) (q : List ℕ) (p : ℕ) → Counted c q → times p q ≡ 1 → le_z largest c ≡ false
waited-on (pos n) q p h k = absurd (times-empty p q k h)
waited-on (negsuc n) q p h k = refl

-- the count that a change sets
abbrev sets_count : Change → ℤ
sets_count untouched = pos 0
sets_count (lowered s) = pos 0
sets_count (raised s) = pos 0
sets_count (rewritten s x) = x.count
sets_count (loses p) = pos 0

module _ {t : Tables} (S : Sound t) (F : CountsFit t) where
  by-effect : {t' : Tables} {s : ℕ} {u : Bool} {c : ℤ} {q : List ℕ} → Effect t t' s u c q → SFits w32 c → CountsFit t'
  by-effect {s = s} E h =
      λ r. either r s
      (λ e. rw e (subst (λ (x : Seen). SFits w32 x.count) (sym E.here) h))
      (λ d. subst (λ (x : Seen). SFits w32 x.count) (sym (E.elsewhere r d)) (F r))

  by-settled : {t' : Tables} → Settled t t' → CountsFit t'
  by-settled g = λ r. subst (λ (x : Seen). SFits w32 x.count) (sym (settled-seen g r)) (F r)

  loses-fits : (t' : Tables) (p : ℕ) (w : Option ℕ) → awaits (state_of t p) ≡ w → Loses t p w t' → CountsFit t'
  loses-fits t' p none e g = by-settled g
  loses-fits t' p (some s) e E = by-effect E (raised-fits (count_of t s) (F s) (waited-on (count_of t s) (queue t s) p (S.queued.counted s) ((sentences S).queued_once p s (awaits-some (state_of t p) s e))))

  change-fits : (x : Change) (t' : Tables) → SFits w32 (sets_count x) → Allowed t x × Becomes t x t' → CountsFit t'
  change-fits untouched t' f (k, g) = by-settled g
  change-fits (lowered s) t' f (k, E) = by-effect E (lowered-fits (count_of t s) (queue t s) (F s) (S.queued.counted s) (few-wait S s))
  change-fits (raised s) t' f ((u, k), E) = by-effect E (raised-fits (count_of t s) (F s) k)
  change-fits (rewritten s x) t' f (k, E) = by-effect E f
  change-fits (loses p) t' f (k, g) = loses-fits t' p (awaits (state_of t p)) refl g

  -- the value

  priority-fits : (p : ℕ) → SFits w32 (pos (priority_of t p))
  priority-fits p = small (priority_of t p) (let z = priority-top p (process t p) (S.laid.slot p) in omega arith)

  one-fits : SFits w32 (pos 1)
  one-fits = small 1 (omega arith)

  value-fits : (c : Call) → Accepted t c → SFits w32 (deed t c).value
  value-fits (Wait a) k = branch (λ d. SFits w32 d.value) (below0 (pred_ℤ (count_of t (nat_abs a)))) _ _ (λ e. one-fits) (λ e. one-fits)
  value-fits (Signal a) k = branch (λ d. SFits w32 d.value) (below0 (count_of t (nat_abs a))) _ _ (λ e. one-fits) (λ e. one-fits)
  value-fits (MakeSemaphore a) (h, (k, z)) = small (first (free_semaphores t)) (let z = (semaphore-found S k).below in omega arith)
  value-fits (Delete a) k = one-fits
  value-fits (Reset a b) k = one-fits
  value-fits (MakeProcess a) (h, (k, z)) = small (first (free_slots t)) (let z = (slot-found S k).below in omega arith)
  value-fits (Resume a) k = priority-fits (nat_abs a)
  value-fits (Suspend a) k = priority-fits (nat_abs a)
  value-fits (Kill a) k = one-fits
  value-fits Yield k = one-fits
  value-fits (Count a) k = F (nat_abs a)

  refused-fit : (n : ℕ) → CountsFit t × SFits w32 (negsuc 0)
  refused-fit n = (F, record { sfits = omega arith })

  pub fits-step : (c : Call) → SFits w32 (sets_count (change_of t c)) → CountsFit (step t c).tables × SFits w32 (value_of (step t c).answer)
  fits-step c f =
      step-cases t (λ o. CountsFit o.tables × SFits w32 (value_of o.answer)) refused-fit c
      (λ k. (change-fits (change_of t c) (finish (deed t c)).tables f (call-changes S c k), value-fits c k))

  -- of each line of the list: the third sets its first argument as a count, the fifth its second, the others none
  abbrev SetsFit : Form → Type 0
  SetsFit f = (a b : ℤ) → SFits w32 a → SFits w32 b → SFits w32 (sets_count (change_of t (call_of f a b)))

  sets-fit : AllFrom (λ n. SetsFit) 1 forms
  sets-fit = (nothing, (nothing, (λ a b f g. f, (nothing, (λ a b f g. g, (nothing, (nothing, (nothing, (nothing, (nothing, (nothing, tt)))))))))))
    where
      nothing : (a b : ℤ) → SFits w32 a → SFits w32 b → SFits w32 (pos 0)
      nothing a b f g = small 0 (omega arith)

  pub fits-numbered : (n : ℕ) (a b : ℤ) → SFits w32 a → SFits w32 b → CountsFit (numbered t n a b).tables × SFits w32 (value_of (numbered t n a b).answer)
  fits-numbered n a b f g =
      numbered-cases t (λ o. CountsFit o.tables × SFits w32 (value_of o.answer)) refused-fit n a b
      (λ x e. fits-step (call_of x a b) (number-has (λ n. SetsFit) sets-fit n x e a b f g))
