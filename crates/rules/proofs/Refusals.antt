-- A call is refused by the first check that holds, and then nothing changes; or no check holds, and it is done. Assumes nothing.
use Rattle.std.specs.Prelude.{if◌then◌else◌}
use Prim.Native.Nat.{◌+◌, ◌≤◌, zero, suc, ℕ}
use native.Mathlib.Omega.{arith}
use mathlib.Core.Bool.{Bool, ◌&&◌, false, not, true, true≢false}
use mathlib.Core.List.{List, [], ◌∷◌}
use mathlib.Core.Logic.{◌≢◌}
use mathlib.Core.Option.{Option, none, some, none-ne-some, some-injective}
use mathlib.Core.Path.{◌∙◌, ◌≡◌, refl, subst, sym}
use lib.Dec.{leb, ltb}
use lib.IntN.{ℤ, nat_abs}
use borrow.Author.Tests.{eq-eqb, leb-true}
use Rattle.lists.specs.Lists.{Each}
use Rattle.lists.proofs.Bools.{both, split}
use Rattle.tables.specs.declared.State.{State}
use Rattle.tables.specs.declared.State.TheVariants.{Free, Current, Ready, Suspended, Waiting}
use Rattle.tables.specs.declared.Tables.{Tables}
use Rattle.tables.specs.Readers.{current_of, state_of}
use Rattle.rules.specs.declared.Answer.TheVariants.{Done, Refused}
use Rattle.rules.specs.declared.Outcome.{Outcome}
use Rattle.rules.specs.Answers.{Check, ◌when◌, NoneHolds, Ranged, elsewhere, last_refusal, may_refuse, number_of, refused, unless}
use Rattle.rules.specs.declared.Call.{Call}
use Rattle.rules.specs.declared.Call.TheVariants.{Count, Delete, Kill, MakeProcess, MakeSemaphore, Reset, Resume, Signal, Suspend, Wait, Yield}
use Rattle.rules.specs.Calls.{Accepted, Deed, checks, deed, finish, state_refusal, step}
use Rattle.rules.specs.Enter.{Form, forms, line_of, form_of, call_of, spare, called, numbered}
use Rattle.rules.specs.declared.Answer.{Answer}

-- what is true of every refusal, and of what is done where no check holds, is true of the call
pub unless-cases : {A : Type 0} (refuse : ℕ → A) (P : A → Type 0) → ((n : ℕ) → P (refuse n)) → (cs : List Check) (o : A) → (NoneHolds cs → P o) → P (unless refuse cs o)
unless-cases refuse P ref [] o h = h tt
unless-cases refuse P ref (c ∷ cs) o h =
    split c.holds (λ e. rw e (ref c.number)) (λ e. rw e (unless-cases refuse P ref cs o (λ r. h (e, r))))

-- a deed that goes by a test
pub branch : (P : Deed → Type 0) (b : Bool) (x y : Deed) → (b ≡ true → P x) → (b ≡ false → P y) → P (if b then x else y)
branch P true x y h k = h refl
branch P false x y h k = k refl

-- where no check holds the call is done
pub unless-none : {A : Type 0} (refuse : ℕ → A) (cs : List Check) (o : A) → NoneHolds cs → unless refuse cs o ≡ o
unless-none refuse [] o h = refl
unless-none refuse (c ∷ cs) o (h, hs) = rw h (unless-none refuse cs o hs)

pub step-done : (t : Tables) (c : Call) → Accepted t c → step t c ≡ finish (deed t c)
unfolding step
step-done t c h = unless-none (λ n. refused n t) (checks t c) (finish (deed t c)) h

-- the answer of what is done is no refusal
pub finish-done : (d : Deed) (n : ℕ) → (finish d).answer ≡ Refused n → ⊥
finish-done d n e = let z : ◌≡◌ {A = ℕ} 0 1 = cc in omega arith

-- what is true of every refusal, and of what an accepted call does, is true of the call
pub step-cases : (t : Tables) (P : Outcome → Type 0) → ((n : ℕ) → P (refused n t)) → (c : Call) → (Accepted t c → P (finish (deed t c))) → P (step t c)
unfolding step
step-cases t P ref c h = unless-cases (λ n. refused n t) P ref (checks t c) (finish (deed t c)) h

pub step-refused : (t : Tables) (c : Call) (n : ℕ) → (step t c).answer ≡ Refused n → (step t c).tables ≡ t
step-refused t c n = step-cases t (λ o. o.answer ≡ Refused n → o.tables ≡ t) (λ m e. refl) c (λ k e. absurd (finish-done (deed t c) n e))

-- what is true of the number of each check that holds is true of the number of a refusal
unless-number : (t : Tables) (P : ℕ → Type 0) (cs : List Check) (o : Outcome) (n : ℕ) → Each (λ c. c.holds ≡ true → P c.number) cs → (o.answer ≡ Refused n → P n) → (unless (λ m. refused m t) cs o).answer ≡ Refused n → P n
unless-number t P [] o n h done e = done e
unless-number t P (c ∷ cs) o n (h, hs) done e =
    split c.holds
    (λ d. let given = rw d at e in let k : c.number ≡ n = cc in subst P k (h d))
    (λ d. unless-number t P cs o n hs done (rw d at e))

-- no wait by process 0 is accepted
pub null-waits-none : (t : Tables) → current_of t ≡ 0 → (c : Call) → Accepted t c → (a : ℤ) → c ≢ Wait a
null-waits-none t z c k a e = true≢false (sym (eq-eqb (current_of t) 0 z) ∙ (subst (Accepted t) e k).1.1.0)

-- what is true of every refusal, and of the call with this number if there is one, is true of the number
pub numbered-cases : (t : Tables) (P : Outcome → Type 0) → ((m : ℕ) → P (refused m t)) → (n : ℕ) (a b : ℤ) → ((f : Form) → form_of n ≡ some f → P (step t (call_of f a b))) → P (numbered t n a b)
unfolding numbered
numbered-cases t P ref n a b call = go (form_of n) refl
  where
    go : (f : Option Form) → form_of n ≡ f → P (called t f a b)
    go none e = ref 13
    go (some f) e = unless-cases (λ m. refused m t) P ref ((14 when spare f a b) ∷ []) (step t (call_of f a b)) (λ k. call f e)

pub numbered-refused : (t : Tables) (n : ℕ) (a b : ℤ) (m : ℕ) → (numbered t n a b).answer ≡ Refused m → (numbered t n a b).tables ≡ t
numbered-refused t n a b m = numbered-cases t (λ o. o.answer ≡ Refused m → o.tables ≡ t) (λ i e. refl) n a b (λ f k. step-refused t (call_of f a b) m)

-- what is true of 13, of 14 and of the number of each check that holds is true of the number of a refusal
pub numbered-number : (t : Tables) (P : ℕ → Type 0) (n : ℕ) (a b : ℤ) (m : ℕ) → P 13 → P 14 → ((f : Form) → form_of n ≡ some f → Each (λ c. c.holds ≡ true → P c.number) (checks t (call_of f a b))) → (numbered t n a b).answer ≡ Refused m → P m
unfolding numbered step
numbered-number t P n a b m unknown spared own = go (form_of n) refl
  where
    go : (f : Option Form) → form_of n ≡ f → (called t f a b).answer ≡ Refused m → P m
    go none e r = let k : ◌≡◌ {A = ℕ} 13 m = cc in subst P k unknown
    go (some f) e r =
        unless-number t P ((14 when spare f a b) ∷ []) (step t (call_of f a b)) m (λ h. spared, tt)
        (unless-number t P (checks t (call_of f a b)) (finish (deed t (call_of f a b))) m (own f e) (λ d. absurd (finish-done (deed t (call_of f a b)) m d)))
        r

-- what is true of each line of the list, from 1 on, is true of a number and its form

abbrev pub AllFrom : (ℕ → Form → Type 0) → ℕ → List Form → Type 0
AllFrom P n [] = Unit
AllFrom P n (f ∷ fs) = P n f × AllFrom P (suc n) fs

line-has : (P : ℕ → Form → Type 0) (n : ℕ) (fs : List Form) → AllFrom P n fs → (i : ℕ) (f : Form) → line_of fs i ≡ some f → (m : ℕ) → n + i ≡ m → P m f
line-has P n [] h i f e m d = absurd (none-ne-some f e)
line-has P n (g ∷ gs) h zero f e m d = let k : n ≡ m = omega arith in subst (P m) (some-injective g f e) (rw (← k) h.0)
line-has P n (g ∷ gs) h (suc i) f e m d = line-has P (suc n) gs h.1 i f e m (omega arith)

pub number-has : (P : ℕ → Form → Type 0) → AllFrom P 1 forms → (n : ℕ) (f : Form) → form_of n ≡ some f → P n f
number-has P h zero f e = absurd (none-ne-some f e)
number-has P h (suc n) f e = line-has P 1 forms h n f e (suc n) (omega arith)

-- Every refusal of a call on sound tables has one of its numbers

state-ranged : (st : State) → may_refuse (state_refusal st) ≡ true
state-ranged Free = refl
state-ranged Current = refl
state-ranged Ready = refl
state-ranged Suspended = refl
state-ranged (Waiting s) = refl

checks-ranged : (t : Tables) (c : Call) → Each (λ k. k.holds ≡ true → may_refuse k.number ≡ true) (checks t c)
checks-ranged t (Wait a) = (λ h. refl, (λ h. refl, (λ h. refl, tt)))
checks-ranged t (Signal a) = (λ h. refl, (λ h. refl, (λ h. refl, tt)))
checks-ranged t (MakeSemaphore a) = (λ h. refl, (λ h. refl, tt))
checks-ranged t (Delete a) = (λ h. refl, (λ h. refl, tt))
checks-ranged t (Reset a b) = (λ h. refl, (λ h. refl, (λ h. refl, tt)))
checks-ranged t (MakeProcess a) = (λ h. refl, (λ h. refl, tt))
checks-ranged t (Resume a) = (λ h. refl, (λ h. refl, (λ h. state-ranged (state_of t (nat_abs a)), tt)))
checks-ranged t (Suspend a) = (λ h. refl, (λ h. refl, (λ h. refl, (λ h. state-ranged (state_of t (nat_abs a)), tt))))
checks-ranged t (Kill a) = (λ h. refl, (λ h. refl, (λ h. refl, tt)))
checks-ranged t Yield = tt
checks-ranged t (Count a) = (λ h. refl, (λ h. refl, tt))

pub numbered-ranged : (t : Tables) (n : ℕ) (a b : ℤ) → Ranged (numbered t n a b).answer
numbered-ranged t n a b = go (numbered t n a b).answer refl
  where
    go : (r : Answer) → (numbered t n a b).answer ≡ r → Ranged r
    go (Done v) e = tt
    go (Refused m) e = numbered-number t (λ i. may_refuse i ≡ true) n a b m refl refl (λ f k. checks-ranged t (call_of f a b)) e

pub ranged-last : (r : Answer) → Ranged r → number_of r ≤ last_refusal
ranged-last (Done v) h = omega arith
ranged-last (Refused n) h = leb-true n last_refusal (both (leb n last_refusal) (not (elsewhere n)) (both (ltb 0 n) (leb n last_refusal && not (elsewhere n)) h).1).0
