-- One call keeps every account right. Assumes nothing.
use Rattle.std.specs.Prelude.{if◌then◌else◌}
use Prim.Native.Nat.{ℕ}
use mathlib.Core.Bool.{Bool, true, false}
use mathlib.Core.List.{List, []}
use mathlib.Core.Option.{Option, none, some}
use mathlib.Core.Path.{◌≡◌, refl, sym, ap, subst, ◌∙◌}
use lib.Dec.{eqb, ltb}
use lib.IntN.{ℤ, nat_abs}
use borrow.Author.Tests.{eq-eqb, ne_eqb}
use Rattle.lists.proofs.Bools.{either}
use Rattle.tables.specs.declared.State.TheVariants.{Waiting}
use Rattle.tables.specs.declared.Tables.{Tables}
use Rattle.tables.specs.States.{awaits, is_the, waits_on}
use Rattle.tables.specs.Readers.{state_of, is_used, count_of, queue, current_of}
use Rattle.tables.specs.Sound.{Sound}
use Rattle.tables.proofs.States.{awaits-some}
use Rattle.tables.proofs.LineLaws.{in-line-live}
use Rattle.tables.proofs.Sentences.{waiter-used, sentences}
use Rattle.rules.specs.declared.Call.{Call}
use Rattle.rules.specs.declared.Call.TheVariants.{Wait, Signal, MakeSemaphore, Delete, Reset, MakeProcess, Resume, Suspend, Kill, Yield, Count}
use Rattle.rules.specs.Calls.{deed, finish}
use Rattle.rules.proofs.Resched.{Settled}
use Rattle.rules.proofs.Effects.{Effect, settled-seen}
use Rattle.rules.proofs.Changes.{change_of, Loses, Becomes, Allowed, call-changes}
use Rattle.rules.specs.Seen.{Seen, seen}
use Rattle.promises.specs.Record.{Request, made, Account, still_blocked, among, opened, killed, change, Event, Sets, Ends, Signals, Waits, Nothing, accepted, entry_of, event, noted}
use Rattle.promises.proofs.Events.{event-cases}
use Rattle.promises.proofs.Accounts.{Agrees, agrees-waited, agrees-signalled, agrees-killed, agrees-spared}

-- the account is the one of a semaphore that is seen so
abbrev AgreesAs : Option Account → Seen → Type 0
AgreesAs old x = Agrees x.used x.count x.waiters old

-- the account is the one of semaphore r in t
abbrev pub Agree : Tables → ℕ → Option Account → Type 0
Agree t r old = AgreesAs old (seen t r)

agree-seen : {x y : Seen} (old : Option Account) → x ≡ y → AgreesAs old y → AgreesAs old x
agree-seen old w h = subst (AgreesAs old) (sym w) h

-- Calls after which every semaphore is seen as before

settled-agree : {t t' : Tables} → Settled t t' → (r : ℕ) (old : Option Account) → Agree t r old → Agree t' r old
settled-agree g r old h = agree-seen old (settled-seen g r) h

-- Calls that change how one semaphore is seen

effect-agree : {t t' : Tables} {s : ℕ} {u : Bool} {c : ℤ} {q : List ℕ} → Effect t t' s u c q → (p : ℕ) (x : Event) → ((old : Option Account) → Agree t s old → Agrees u c q (noted p x old))
    → (r : ℕ) (old : Option Account) → Agree t r old → Agree t' r (noted p (if eqb s r then x else Nothing) old)
effect-agree {s = s} E p x h r old a =
    either s r
    (λ e. rw (eq-eqb s r e, ← e) (agree-seen (noted p x old) E.here (h old (rw (← e) at a))))
    (λ d. rw (ne_eqb s r d) (agree-seen old (E.elsewhere r (λ e. d (sym e))) a))

agrees-opened : (c : ℤ) → Agrees true c [] (some (opened c))
unfolding still_blocked
agrees-opened c = (refl, refl)

module _ {t : Tables} (S : Sound t) where
  in_use_lem : (s : ℕ) → is_used t s ≡ true → (old : Option Account) → Agree t s old → Agrees true (count_of t s) (queue t s) old
  in_use_lem s u old k = rw u at k

  -- who waits elsewhere, or nowhere, isn't in the queue
  absent : (p r : ℕ) → waits_on r (state_of t p) ≡ false → among p (queue t r) ≡ false
  absent p r h = ap (ltb 0) (in-line-live S.laid p (waits_on r) refl ∙ ap (λ (b : Bool). if b then 1 else 0) h)

  kill-other : {t' : Tables} (p : ℕ) → ((r : ℕ) → waits_on r (state_of t p) ≡ false) → Settled t t' → (r : ℕ) (old : Option Account) → Agree t r old → Agree t' r (change (killed p) old)
  kill-other p hw g r old a =
      agree-seen (change (killed p) old) (settled-seen g r) (agrees-spared (is_used t r) (count_of t r) (queue t r) p old (absent p r (hw r)) a)

  -- a kill, by the semaphore that the process waits on
  kill-agree : (t' : Tables) (p : ℕ) (w : Option ℕ) → awaits (state_of t p) ≡ w → Loses t p w t' → (r : ℕ) (old : Option Account) → Agree t r old → Agree t' r (change (killed p) old)
  kill-agree t' p none e g r old a = kill-other p (λ r. ap (is_the r) e) g r old a
  kill-agree t' p (some s) e E r old a =
      let here : state_of t p ≡ Waiting s = awaits-some (state_of t p) s e in
      let among-them : among p (queue t s) ≡ true = ap (ltb 0) ((sentences S).queued_once p s here) in
      either s r
      (λ d. rw (← d)
      (agree-seen (change (killed p) old) E.here
      (rw (waiter-used S p s here) at (agrees-killed (is_used t s) (count_of t s) (queue t s) p old among-them (rw (← d) at a)))))
      (λ d. agree-seen (change (killed p) old) (E.elsewhere r (λ c. d (sym c)))
      (agrees-spared (is_used t r) (count_of t r) (queue t r) p old (absent p r (ap (is_the r) e ∙ ne_eqb s r d)) a))

  -- by call, as the record is: this ties what the rules change to what the record says
  call-agrees : (c : Call) (t' : Tables) → Allowed t (change_of t c) × Becomes t (change_of t c) t' → (r : ℕ) (old : Option Account) → Agree t r old → Agree t' r (noted (current_of t) (accepted r c (deed t c).value) old)
  call-agrees (Wait a) t' (k, E) = effect-agree E (current_of t) Waits (λ old h. agrees-waited (count_of t (nat_abs a)) (queue t (nat_abs a)) (current_of t) old (in_use_lem (nat_abs a) k old h))
  call-agrees (Signal a) t' ((k, m), E) = effect-agree E (current_of t) Signals (λ old h. agrees-signalled (count_of t (nat_abs a)) (queue t (nat_abs a)) old (in_use_lem (nat_abs a) k old h))
  call-agrees (MakeSemaphore a) t' (k, E) = effect-agree E (current_of t) (Sets a) (λ old h. agrees-opened a)
  call-agrees (Delete a) t' (k, E) = effect-agree E (current_of t) Ends (λ old h. tt)
  call-agrees (Reset a b) t' (k, E) = effect-agree E (current_of t) (Sets b) (λ old h. agrees-opened b)
  call-agrees (MakeProcess a) t' (k, g) = settled-agree g
  call-agrees (Resume a) t' (k, g) = settled-agree g
  call-agrees (Suspend a) t' (k, g) = settled-agree g
  call-agrees (Kill a) t' (k, g) = kill-agree t' (nat_abs a) (awaits (state_of t (nat_abs a))) refl g
  call-agrees Yield t' (k, g) = settled-agree g
  call-agrees (Count a) t' (k, g) = settled-agree g

  -- refusals keep what they find
  pub numbered-agree : (q : Request) (r : ℕ) (old : Option Account) → Agree t r old → Agree (made t q).tables r (noted (current_of t) (event r (entry_of t q)) old)
  numbered-agree q r old h =
      event-cases t q r (λ t' x. Agree t' r (noted (current_of t) x old)) h (λ c k. call-agrees c (finish (deed t c)).tables (call-changes S c k) r old h)
