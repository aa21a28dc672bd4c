-- Demand 3 holds after any list of requests. Assumes nothing.
use Rattle.std.specs.Prelude.{if◌then◌else◌}
use Prim.Native.Nat.{◌≤◌, suc, ℕ}
use native.Mathlib.Omega.{arith}
use mathlib.Core.Bool.{Bool, false, true, true≢false}
use mathlib.Core.List.{List, [], ◌∷◌}
use mathlib.Core.Logic.{◌≢◌}
use mathlib.Core.Option.{Option, none, some, none-ne-some, some-injective}
use mathlib.Core.Path.{◌∙◌, ◌≡◌, ap, refl, subst, sym}
use lib.IntN.{ℤ}
use lib.ListN.{length}
use borrow.Author.Tests.{eq-eqb}
use Rattle.lists.specs.Lists.{times}
use Rattle.tables.specs.declared.State.{State}
use Rattle.tables.specs.declared.State.TheVariants.{Current, Free, Ready, Suspended, Waiting}
use Rattle.tables.specs.declared.Semaphore.{Semaphore}
use Rattle.tables.specs.declared.Tables.{Tables}
use Rattle.tables.specs.States.{is_current, is_free, is_ready, is_suspended, waits_on}
use Rattle.tables.specs.Readers.{count_of, is_used, queue, state_of}
use Rattle.tables.specs.Boot.{boot}
use Rattle.tables.specs.Sound.{Sound}
use Rattle.lists.proofs.Bools.{split}
use Rattle.tables.proofs.States.{is_free_lem, is-current, is-ready, is-suspended, waits-on}
use Rattle.tables.proofs.LineLaws.{in-line-live}
use Rattle.tables.proofs.Sentences.{few-wait, sentences}
use Rattle.tables.proofs.BootLaws.{entry-boot, sound-boot}
use Rattle.rules.proofs.Kept.{sound-numbered}
use Rattle.promises.specs.Record.{Account, Entry, Request, account, after, blocked, record_of}
use Rattle.promises.specs.Sum.{Sum, sum_of}
use Rattle.promises.specs.Demand.{Accounted, Demand3, OnePlace, Place, Start, queue_of, ready, running, suspended, there}
use Rattle.promises.proofs.Accounts.{Agrees}
use Rattle.promises.proofs.Sums.{Sums, record-sums}
use Rattle.promises.proofs.CallAccounts.{Agree, numbered-agree}

-- what every call keeps
record Invariant (t : Tables) (es : List Entry) : Type 0 where
  sound : Sound t
  agrees : (r : ℕ) → Agree t r (account r es)

pub start-boot : Start boot
start-boot = record { sound = sound-boot; unused = λ s. ap (λ (x : Semaphore). x.used) (entry-boot s) }

module _ {start : Tables} (st : Start start) where
  begun : Invariant start []
  unfolding account
  begun = record { sound = st.sound; agrees = λ r. subst (λ (b : Bool). Agrees b (count_of start r) (queue start r) none) (sym (st.unused r)) tt }

  invariant : (requests : List Request) → Invariant (after start requests) (record_of start requests)
  unfolding after record_of account
  invariant [] = begun
  invariant (q ∷ earlier) =
      let i : Invariant (after start earlier) (record_of start earlier) = invariant earlier in
      record {
        sound = sound-numbered i.sound q.number q.a q.b;
        agrees = λ r. numbered-agree i.sound q r (account r (record_of start earlier)) (i.agrees r);
      }

-- What the demand says

used-account : (t : Tables) (es : List Entry) (s : ℕ) (old : Option Account) (sum : Option Sum) → account s es ≡ old → sum_of s es ≡ sum → Agrees true (count_of t s) (queue t s) old → Sums old sum → Accounted t es s
used-account t es s none sum d e h k = absurd h
used-account t es s (some n) none d e h k = absurd k
used-account t es s (some n) (some m) d e h k = record { sum = m; summed = e; adds = sym h.0 ∙ k; says = n; known = d; count = sym h.0; waiters = sym h.1 }

unused-account : (c : ℤ) (q : List ℕ) (old : Option Account) → Agrees false c q old → old ≡ none
unused-account c q none h = refl
unused-account c q (some n) h = absurd h

-- Places

-- the test of a state that a place is the line of
abbrev tests : Place → State → Bool
tests running = is_current
tests ready = is_ready
tests suspended = is_suspended
tests (queue_of s) = waits_on s

-- the place of a state, none of a free slot
abbrev place_by_state : State → Option Place
place_by_state Free = none
place_by_state Current = some running
place_by_state Ready = some ready
place_by_state Suspended = some suspended
place_by_state (Waiting s) = some (queue_of s)

-- a state passes the test of its own place alone
passes-place : (x : Place) (st : State) → tests x st ≡ true → place_by_state st ≡ some x
passes-place running st h = ap place_by_state (is-current st h)
passes-place ready st h = ap place_by_state (is-ready st h)
passes-place suspended st h = ap place_by_state (is-suspended st h)
passes-place (queue_of s) st h = ap place_by_state (waits-on st s h)

module _ {t : Tables} (S : Sound t) where
  there-times : (p : ℕ) (x : Place) → times p (there t x) ≡ (if tests x (state_of t p) then 1 else 0)
  there-times p running = in-line-live S.laid p is_current refl
  there-times p ready = in-line-live S.laid p is_ready refl
  there-times p suspended = in-line-live S.laid p is_suspended refl
  there-times p (queue_of s) = in-line-live S.laid p (waits_on s) refl

  -- where its state doesn't say, it doesn't stand
  not_there : (p : ℕ) (x : Place) → place_by_state (state_of t p) ≢ some x → times p (there t x) ≡ 0
  not_there p x n = there-times p x ∙ split (tests x (state_of t p)) (λ h. absurd (n (passes-place x (state_of t p) h))) (λ h. rw h)

  at_place : (p : ℕ) (x : Place) → tests x (state_of t p) ≡ true → OnePlace t p
  at_place p x h = record { place = x; once = there-times p x ∙ rw h; nowhere_else = λ y n. not_there p y (λ d. n (some-injective y x (sym d ∙ passes-place x (state_of t p) h))) }

  placed : (p : ℕ) (st : State) → state_of t p ≡ st → is_free st ≡ false → OnePlace t p
  placed p Free e h = absurd (true≢false h)
  placed p Current e h = at_place p running (ap is_current e)
  placed p Ready e h = at_place p ready (ap is_ready e)
  placed p Suspended e h = at_place p suspended (ap is_suspended e)
  placed p (Waiting s) e h = at_place p (queue_of s) (ap (waits_on s) e ∙ eq-eqb s s refl)

  nowhere : (p : ℕ) → is_free (state_of t p) ≡ true → (x : Place) → times p (there t x) ≡ 0
  nowhere p h x = not_there p x (λ d. none-ne-some x (sym (ap place_by_state (is_free_lem (state_of t p) h)) ∙ d))

  different : (s p : ℕ) → times p (queue t s) ≤ 1
  different s p = rw (there-times p (queue_of s)) (split (waits_on s (state_of t p)) (λ b. rw b (omega arith)) (λ b. rw b (omega arith)))

demanded : {t : Tables} {es : List Entry} → Invariant t es → Demand3 t es
demanded {t} {es} i =
    record {
      places = λ p h. placed i.sound p (state_of t p) refl h;
      free = nowhere i.sound;
      in_use = λ s h. used-account t es s (account s es) (sum_of s es) refl refl (rw h at (i.agrees s)) (record-sums s es);
      not_in_use = λ s h. (unused-account (count_of t s) (queue t s) (account s es) (rw h at (i.agrees s)), (sentences i.sound).no_queue s h);
      waiters = i.sound.queued.counted;
      different = different i.sound;
      floor = λ s n e. let k : length (queue t s) ≡ suc n = rw e at (i.sound.queued.counted s) in omega (arith, few-wait i.sound s);
    }

-- after any list of requests, from any start
pub demand3-from : {start : Tables} → Start start → (requests : List Request) → Demand3 (after start requests) (record_of start requests)
demand3-from st requests = demanded (invariant st requests)

-- and so from boot
pub demand3 : (requests : List Request) → Demand3 (after boot requests) (record_of boot requests)
demand3 = demand3-from start-boot

-- so each queue is who the record says is still blocked
pub demand3-queue : {t : Tables} {entries : List Entry} → Demand3 t entries → (s : ℕ) → queue t s ≡ blocked entries s
demand3-queue {t} d s =
    split (is_used t s)
    (λ u. let a = d.in_use s u in rw a.known a.waiters)
    (λ u. let a = d.not_in_use s u in rw a.0 a.1)
