-- Each refusal number is given exactly when the paper's table (specs/Reasons) says, and at no other time. Assumes nothing.
use Rattle.std.specs.Prelude.{if◌then◌else◌}
use Prim.Native.Nat.{ℕ, ◌≤◌, ◌<◌}
use native.Mathlib.Omega.{arith}
use mathlib.Core.Bool.{Bool, true, false, not, ◌||◌, true≢false}
use mathlib.Core.List.{List, [], ◌∷◌, ◌++◌, append-nil}
use mathlib.Core.Logic.{◌≢◌, ◌↔◌, ◌⊎◌, inl, inr, ⊎_elim}
use mathlib.Core.Option.{Option, none, some, none-ne-some}
use mathlib.Core.Path.{◌≡◌, refl, sym, ap, subst, ◌∙◌}
use lib.IntN.{ℤ, pos, negsuc, nat_abs}
use lib.Signed.{◌≤ℤ◌, ◌<ℤ◌, le_z, lt_z}
use mir.Syntax.{w32}
use mir.Val.{SFits}
use borrow.Author.Tests.{eqb-true, leb-true, ltb-true}
use Rattle.lists.specs.Lists.{is_empty}
use Rattle.lists.proofs.Bools.{not-true, not-false, split, either, below?}
use Rattle.lists.proofs.Exactly.{Tests, tests-or, tests-not, tests-eqb, tests-lt_z, tests-le_z}
use Rattle.lists.proofs.RoundLaws.{none_found, found_none}
use Rattle.tables.specs.declared.State.{State}
use Rattle.tables.specs.declared.State.TheVariants.{Free, Current, Ready, Suspended, Waiting}
use Rattle.tables.specs.declared.Tables.{Tables}
use Rattle.tables.specs.Limits.{process_limit, semaphore_limit, priority_limit}
use Rattle.tables.specs.States.{is_free, is_current, is_ready, is_suspended, is_waiting}
use Rattle.tables.specs.Readers.{state_of, is_used, count_of, current_of}
use Rattle.tables.specs.Sound.{Sound}
use Rattle.tables.specs.Test.{sound_now}
use Rattle.tables.specs.Counts.{CountsFit}
use Rattle.tables.proofs.States.{is_free_lem, is-current, is-ready, is-suspended, is-waiting}
use Rattle.tables.proofs.TestLaws.{checked-sound, sound-checked}
use Rattle.rules.specs.declared.Answer.TheVariants.{Refused}
use Rattle.rules.specs.declared.Outcome.{Outcome}
use Rattle.rules.specs.Answers.{Check, ◌when◌, Ranged, may_refuse, refused, unless}
use Rattle.rules.specs.declared.Call.{Call}
use Rattle.rules.specs.declared.Call.TheVariants.{Wait, Signal, MakeSemaphore, Delete, Reset, MakeProcess, Resume, Suspend, Kill, Yield, Count}
use Rattle.rules.specs.Calls.{below0, outside, largest, no_semaphore, not_used, no_count, no_process, state_refusal, not_live, wrong_state, null_process, free_semaphores, free_slots, checks, deed, finish, step}
use Rattle.rules.specs.Enter.{Form, forms, form_of, is_zero, spare, call_of, called, numbered, enter}
use Rattle.telling.specs.Reasons.{Reason, Exactly, FirstOf, no_such_semaphore, semaphore_free, count_below0, all_used, count_largest, no_such_process, slot_free, all_live, found_suspended, process0, no_such_priority, no_such_call, arguments_of, spare_argument, not_sound, found_current, found_ready, found_waiting, own_reasons, call_reasons, numbered_reasons, reasons}
use Rattle.rules.proofs.Numbers.{number-known, number_past}
use Rattle.rules.proofs.Refusals.{finish-done, AllFrom, number-has, numbered-ranged}

-- Number by number

tests-below0 : (a : ℤ) → Tests (below0 a) (a <ℤ pos 0)
tests-below0 (pos n) = (λ e. absurd (true≢false (sym e)), λ w. let k : n < 0 = ltb-true n 0 ((tests-lt_z (pos n) (pos 0)).1 w) in absurd (omega arith))
tests-below0 (negsuc n) = (λ e. record { lt = tt }, λ w. refl)

tests-outside : (limit : ℕ) (a : ℤ) → Tests (outside limit a) ((a <ℤ pos 0) ⊎ (pos limit ≤ℤ a))
tests-outside limit a = tests-or (below0 a) (le_z (pos limit) a) (tests-below0 a) (tests-le_z (pos limit) a)

pub given-1 : (a : ℤ) → Exactly (no_semaphore a) (no_such_semaphore a)
given-1 a = (refl, tests-outside semaphore_limit a)

pub given-2 : (t : Tables) (a : ℤ) → Exactly (not_used t a) (semaphore_free t a)
given-2 t a = (refl, (not-true (is_used t (nat_abs a)), ap not))

pub given-3 : (a : ℤ) → Exactly (no_count a) (count_below0 a)
given-3 a = (refl, tests-below0 a)

pub given-4 : {t : Tables} → Sound t → Exactly (4 when is_empty (free_semaphores t)) (all_used t)
given-4 {t} S =
    let unused : ℕ → Bool = λ s. not (is_used t s) in
    let from : ℕ = t.next_semaphore in
    let k : from < semaphore_limit = S.laid.cursors.0 in
    (refl, (λ e s l. not-false (is_used t s) (none_found unused semaphore_limit from k e s l), λ u. found_none unused semaphore_limit from k (λ s l. ap not (u s l))))

-- of counts of 32 bits
pub given-5 : (t : Tables) (a : ℤ) → SFits w32 (count_of t (nat_abs a)) → Exactly (5 when le_z largest (count_of t (nat_abs a))) (count_largest t a)
given-5 t a f = (refl, go (count_of t (nat_abs a)) f)
  where
    go : (c : ℤ) → SFits w32 c → Tests (le_z largest c) (c ≡ pos 2147483647)
    go (pos n) f = (λ e. let k : 2147483647 ≤ n = leb-true 2147483647 n e in let m : n < 2147483648 = f.sfits in ap pos (omega arith), ap (le_z largest))
    go (negsuc n) f = (λ e. absurd (true≢false (sym e)), ap (le_z largest))

pub given-6 : (a : ℤ) → Exactly (no_process a) (no_such_process a)
given-6 a = (refl, tests-outside process_limit a)

pub given-7 : (t : Tables) (a : ℤ) → Exactly (not_live t a) (slot_free t a)
given-7 t a = (refl, (is_free_lem (state_of t (nat_abs a)), ap is_free))

-- slot 0, where the search may begin, is never free
pub given-8 : {t : Tables} → Sound t → Exactly (8 when is_empty (free_slots t)) (all_live t)
given-8 {t} S =
    let free : ℕ → Bool = λ p. is_free (state_of t p) in
    let from : ℕ = t.next_process in
    let k : from < process_limit = S.laid.cursors.1 in
    let zero-live : state_of t 0 ≢ Free = λ e. true≢false (sym S.running.zero ∙ ap (λ (st : State). is_current st || is_ready st) e) in
    let live : (all_live t).holds → (p : ℕ) → p < process_limit → free p ≡ false = λ n p l. split (free p)
    (λ e. let f : state_of t p ≡ Free = is_free_lem (state_of t p) e in absurd (either p 0 (λ z. zero-live (rw z at f)) (λ z. n p (omega arith) l f)))
    (λ e. e) in
    (refl, (λ e p b l f. true≢false (sym (ap is_free f) ∙ none_found free process_limit from k e p l), λ n. found_none free process_limit from k (live n)))

pub given-9 : (t : Tables) (a : ℤ) → Exactly (9 when is_suspended (state_of t (nat_abs a))) (found_suspended t a)
given-9 t a = (refl, (is-suspended (state_of t (nat_abs a)), ap is_suspended))

pub given-10 : (p : ℕ) → Exactly (null_process p) (process0 p)
given-10 p = (refl, tests-eqb p 0)

pub given-11 : (a : ℤ) → Exactly (11 when lt_z a (pos 1) || lt_z (pos priority_limit) a) (no_such_priority a)
given-11 a = (refl, tests-or (lt_z a (pos 1)) (lt_z (pos priority_limit) a) (tests-lt_z a (pos 1)) (tests-lt_z (pos priority_limit) a))

pub given-13 : (n : ℕ) → (form_of n ≡ none) ↔ (no_such_call n).holds
given-13 n = (λ e. below? n 1 inl (λ low. below? 11 n inr (λ high. let k = number-known n low high in absurd (none-ne-some k.0 (sym e ∙ k.1)))), ⊎_elim (λ h. let z : n ≡ 0 = omega arith in ap form_of z) (number_past n))

tests-zero : (a : ℤ) → Tests (is_zero a) (a ≡ pos 0)
tests-zero (pos n) = (λ e. ap pos (eqb-true n 0 e), ap is_zero)
tests-zero (negsuc n) = (λ e. absurd (true≢false (sym e)), ap is_zero)

tests-used : (a : ℤ) → Tests (not (is_zero a)) (a ≢ pos 0)
tests-used a = tests-not (is_zero a) (tests-zero a)

-- by how many arguments each line of the list uses
module _ (a b : ℤ) where
  abbrev Spare : ℕ → Form → Type 0
  Spare n f = Tests (spare f a b) (spare_argument n a b).holds

  two : (n : ℕ) → arguments_of n ≡ 2 → Tests false (spare_argument n a b).holds
  two n k = rw k (λ e. absurd (true≢false (sym e)), ⊎_elim (λ w. let z = w.1 in absurd (omega arith)) (λ w. let z = w.1 in absurd (omega arith)))

  one : (n : ℕ) → arguments_of n ≡ 1 → Tests (not (is_zero b)) (spare_argument n a b).holds
  one n k = rw k (λ e. inl ((tests-used b).0 e, omega arith), ⊎_elim (λ w. (tests-used b).1 w.0) (λ w. let z = w.1 in absurd (omega arith)))

  no : (n : ℕ) → arguments_of n ≡ 0 → Tests (not (is_zero a) || not (is_zero b)) (spare_argument n a b).holds
  no n k =
      let or = tests-or (not (is_zero a)) (not (is_zero b)) (tests-used a) (tests-used b) in
      rw k (λ e. ⊎_elim (λ w. inr (w, omega arith)) (λ w. inl (w, omega arith)) (or.0 e), λ w. or.1 (⊎_elim (λ v. inr v.0) (λ v. inl v.0) w))

  spares : AllFrom Spare 1 forms
  spares = (one 1 refl, (one 2 refl, (one 3 refl, (one 4 refl, (two 5 refl, (one 6 refl, (one 7 refl, (one 8 refl, (one 9 refl, (no 10 refl, (one 11 refl, tt)))))))))))

  pub given-14 : (n : ℕ) (f : Form) → form_of n ≡ some f → Exactly (14 when spare f a b) (spare_argument n a b)
  given-14 n f e = (refl, number-has Spare spares n f e)

pub given-17 : (t : Tables) (a : ℤ) → Exactly (17 when is_current (state_of t (nat_abs a))) (found_current t a)
given-17 t a = (refl, (is-current (state_of t (nat_abs a)), ap is_current))

pub given-18 : (t : Tables) (a : ℤ) → Exactly (18 when is_ready (state_of t (nat_abs a))) (found_ready t a)
given-18 t a = (refl, (is-ready (state_of t (nat_abs a)), ap is_ready))

pub given-19 : (t : Tables) (a : ℤ) → Exactly (19 when is_waiting (state_of t (nat_abs a))) (found_waiting t a)
given-19 t a = (refl, (is-waiting (state_of t (nat_abs a)), λ h. ap is_waiting h.1))

-- A call's checks are its reasons, in the same order

abbrev AllExactly : List Check → List Reason → Type 0
AllExactly [] [] = Unit
AllExactly [] (r ∷ rs) = ⊥
AllExactly (c ∷ cs) [] = ⊥
AllExactly (c ∷ cs) (r ∷ rs) = Exactly c r × AllExactly cs rs

-- one for one, also where the number of a check goes by the state: it refuses as single checks do, one for each state

record OneForOne (cs : List Check) (rs : List Reason) : Type 1 where
  singles : List Check
  exactly : AllExactly singles rs
  alike : (refuse : ℕ → Outcome) (o : Outcome) → unless refuse cs o ≡ unless refuse singles o

plainly : {cs : List Check} {rs : List Reason} → AllExactly cs rs → OneForOne cs rs
plainly {cs} g = record { singles = cs; exactly = g; alike = λ refuse o. refl }

before : {c : Check} {r : Reason} {cs : List Check} {rs : List Reason} → Exactly c r → OneForOne cs rs → OneForOne (c ∷ cs) (r ∷ rs)
before {c} g h = record { singles = c ∷ h.singles; exactly = (g, h.exactly); alike = λ refuse o. rw (h.alike refuse o) }

abbrev resume_singles : State → List Check
resume_singles st = (7 when is_free st) ∷ (17 when is_current st) ∷ (18 when is_ready st) ∷ (19 when is_waiting st) ∷ []

abbrev suspend_singles : State → List Check
suspend_singles st = (7 when is_free st) ∷ (9 when is_suspended st) ∷ (19 when is_waiting st) ∷ []

singles-alike : (refuse : ℕ → Outcome) (o : Outcome) (st : State)
    → (unless refuse ((7 when is_free st) ∷ (state_refusal st when not (is_suspended st)) ∷ []) o ≡ unless refuse (resume_singles st) o)
    × (unless refuse ((7 when is_free st) ∷ (state_refusal st when not (is_ready st || is_current st)) ∷ []) o ≡ unless refuse (suspend_singles st) o)
singles-alike refuse o Free = (refl, refl)
singles-alike refuse o Current = (refl, refl)
singles-alike refuse o Ready = (refl, refl)
singles-alike refuse o Suspended = (refl, refl)
singles-alike refuse o (Waiting s) = (refl, refl)

module _ (t : Tables) (a : ℤ) where
  resume-given : OneForOne (not_live t a ∷ wrong_state is_suspended t a ∷ []) (slot_free t a ∷ found_current t a ∷ found_ready t a ∷ found_waiting t a ∷ [])
  resume-given = record {
    singles = resume_singles (state_of t (nat_abs a));
    exactly = (given-7 t a, (given-17 t a, (given-18 t a, (given-19 t a, tt))));
    alike = λ refuse o. (singles-alike refuse o (state_of t (nat_abs a))).0;
  }

  suspend-given : OneForOne (not_live t a ∷ wrong_state (λ st. is_ready st || is_current st) t a ∷ []) (slot_free t a ∷ found_suspended t a ∷ found_waiting t a ∷ [])
  suspend-given = record {
    singles = suspend_singles (state_of t (nat_abs a));
    exactly = (given-7 t a, (given-9 t a, (given-19 t a, tt)));
    alike = λ refuse o. (singles-alike refuse o (state_of t (nat_abs a))).1;
  }

checks-given : {t : Tables} → Sound t → CountsFit t → (c : Call) → OneForOne (checks t c) (own_reasons t c)
checks-given {t} S F (Wait a) = plainly (given-1 a, (given-2 t a, (given-10 (current_of t), tt)))
checks-given {t} S F (Signal a) = plainly (given-1 a, (given-2 t a, (given-5 t a (F (nat_abs a)), tt)))
checks-given S F (MakeSemaphore a) = plainly (given-3 a, (given-4 S, tt))
checks-given {t} S F (Delete a) = plainly (given-1 a, (given-2 t a, tt))
checks-given {t} S F (Reset a b) = plainly (given-3 b, (given-1 a, (given-2 t a, tt)))
checks-given S F (MakeProcess a) = plainly (given-11 a, (given-8 S, tt))
checks-given {t} S F (Resume a) = before (given-6 a) (resume-given t a)
checks-given {t} S F (Suspend a) = before (given-6 a) (before (given-10 (nat_abs a)) (suspend-given t a))
checks-given {t} S F (Kill a) = plainly (given-6 a, (given-10 (nat_abs a), (given-7 t a, tt)))
checks-given S F Yield = plainly tt
checks-given {t} S F (Count a) = plainly (given-1 a, (given-2 t a, tt))

-- one check more in front is one reason more in front
check-exactly : (t : Tables) (b : Bool) (m n : ℕ) (o : Outcome) {P Q : Type 0} → Tests b P → (o.answer ≡ Refused n) ↔ Q → ((if b then refused m t else o).answer ≡ Refused n) ↔ (((m ≡ n) × P) ⊎ ((¬ P) × Q))
check-exactly t true m n o p q = (λ e. inl (cc, p.0 refl), ⊎_elim (λ w. ap Refused w.0) (λ w. absurd (w.0 (p.0 refl))))
check-exactly t false m n o p q = (λ e. inr (λ w. true≢false (sym (p.1 w)), q.0 e), ⊎_elim (λ w. absurd (true≢false (sym (p.1 w.1)))) (λ w. q.1 w.1))

unless-exactly : (t : Tables) (cs : List Check) (rs later : List Reason) (o : Outcome) (n : ℕ) → AllExactly cs rs → (o.answer ≡ Refused n) ↔ FirstOf later n → ((unless (λ k. refused k t) cs o).answer ≡ Refused n) ↔ FirstOf (rs ++ later) n
unless-exactly t [] [] later o n g h = h
unless-exactly t [] (r ∷ rs) later o n g h = absurd g
unless-exactly t (c ∷ cs) [] later o n g h = absurd g
unless-exactly t (c ∷ cs) (r ∷ rs) later o n ((e, w), g) h = rw e (check-exactly t c.holds r.number n (unless (λ k. refused k t) cs o) w (unless-exactly t cs rs later o n g h))

-- What is given

module _ {t : Tables} (S : Sound t) (F : CountsFit t) where
  -- a call is refused with the number of the first of its reasons that holds, and with no other
  pub step-exactly : (c : Call) (n : ℕ) → ((step t c).answer ≡ Refused n) ↔ FirstOf (own_reasons t c) n
  unfolding step
  step-exactly c n =
      let g = checks-given S F c in
      rw (g.alike (λ m. refused m t) (finish (deed t c)), ← append-nil (own_reasons t c)) (unless-exactly t g.singles (own_reasons t c) [] (finish (deed t c)) n g.exactly (finish-done (deed t c) n, λ w. absurd w))

  pub numbered-exactly : (m : ℕ) (a b : ℤ) (n : ℕ) → ((numbered t m a b).answer ≡ Refused n) ↔ FirstOf (numbered_reasons t m a b) n
  unfolding numbered
  numbered-exactly m a b n = go (form_of m) refl
    where
      go : (f : Option Form) → form_of m ≡ f → ((called t f a b).answer ≡ Refused n) ↔ FirstOf (no_such_call m ∷ spare_argument m a b ∷ call_reasons t f a b) n
      go none e = (λ r. inl (cc, (given-13 m).0 e), ⊎_elim (λ w. ap Refused w.0) (λ w. absurd (w.0 ((given-13 m).0 e))))
      go (some f) e =
          check-exactly t false 13 n (called t (some f) a b) (λ k. absurd (true≢false (sym k)), λ w. absurd (none-ne-some f (sym ((given-13 m).1 w) ∙ e)))
          (unless-exactly t ((14 when spare f a b) ∷ []) (spare_argument m a b ∷ []) (own_reasons t (call_of f a b)) (step t (call_of f a b)) n (given-14 a b m f e, tt) (step-exactly (call_of f a b) n))

pub given-15 : (t : Tables) (m : ℕ) (a b : ℤ) → ((enter t m a b).outcome.answer ≡ Refused 15) ↔ (not_sound t).holds
unfolding enter
given-15 t m a b =
    split (sound_now t)
    (λ e. rw e (λ r. absurd (true≢false (sym (subst Ranged r (numbered-ranged t m a b)))), λ k. absurd (k (checked-sound e))))
    (λ e. rw e (λ r S. true≢false (sym (sound-checked S) ∙ e), λ k. refl))

-- every call, by its number: 15, 13, 14, then the call's own
pub given-exactly : (t : Tables) → CountsFit t → (m : ℕ) (a b : ℤ) (n : ℕ) → ((enter t m a b).outcome.answer ≡ Refused n) ↔ FirstOf (reasons t m a b) n
unfolding enter
given-exactly t F m a b n =
    split (sound_now t)
    (λ e. let S = checked-sound e in rw e (check-exactly t false 15 n (numbered t m a b) (λ k. absurd (true≢false (sym k)), λ k. absurd (k S)) (numbered-exactly S F m a b n)))
    (λ e. let k : ¬ Sound t = λ S. true≢false (sym (sound-checked S) ∙ e) in rw e (λ r. inl (cc, k), ⊎_elim (λ w. ap Refused w.0) (λ w. absurd (w.0 k))))

-- 15 or a number that is a call's, and so neither 12, a line's, nor 16, the status page's
pub enter-ranged : (t : Tables) (m : ℕ) (a b : ℤ) (n : ℕ) → (enter t m a b).outcome.answer ≡ Refused n → (n ≡ 15) ⊎ (may_refuse n ≡ true)
unfolding enter
enter-ranged t m a b n = split (sound_now t) (λ e. rw e (λ r. inr (subst Ranged r (numbered-ranged t m a b)))) (λ e. rw e (λ r. inl (let k : ◌≡◌ {A = ℕ} n 15 = cc in k)))
