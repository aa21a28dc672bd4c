-- What a call comes to and what its end makes of it, whichever call it is. Assumes nothing.
use Prim.Native.Nat.{◌<◌, ◌^◌, ℕ}
use mir.Syntax.{w32}
use lib.Signed.{mag}
use mir.Val.{hbits, of_z, to_z}
use mir.ValLaws.{to_z-of_z}
use mathlib.Core.List.{List}
use Rattle.std.specs.Prelude.{Err, IsErrAnd, None, Ok, Option, Result, Some, ok_or}
use mathlib.Core.Path.{◌∙◌, ◌≡◌, ap, refl, subst, sym}
use lib.IntN.{ℤ}
use Rattle.layout.specs.Stands.{Does, Stands}
use Rattle.rules.specs.Answers.{Check, refusal_number, refused, unless}
use Rattle.rules.specs.Calls.{checks, deed, finish, step}
use Rattle.rules.specs.declared.Call.{Call}
use Rattle.rules.specs.declared.Refusal.{Refusal}
use Rattle.rules.specs.declared.Answer.TheVariants.{Done as AnswerDone, Refused as AnswerRefused}
use Rattle.rules.specs.declared.Outcome.{Outcome}
use Rattle.tables.specs.Sound.{Sound}
use Rattle.tables.specs.declared.Tables.{Tables}
use Rattle.scheduling.specs.Running.{Only, Reschedules}
use Rattle.scheduling.specs.Steps.{Ends, Leads, Meets, Runs, by_number, told}
use Rattle.scheduling.specs.declared.step.Step.{Step}
use Rattle.scheduling.specs.declared.step.Step.TheVariants.{Done, Switches}
use Rattle.scheduling.specs.declared.step.Told.{Told}
use Rattle.scheduling.proofs.RunningLaws.{still}
use Rattle.scheduling.proofs.ScheduleLaws.{only-runs}

-- The end of a call

module _ (c : ℕ) (s : Result Step ℕ) (a : List ℕ) where
  pub end_refused : (n : ℕ) → s ≡ Err n → Ends c s a a (record { answer = AnswerRefused n; running = c })
  unfolding Ends
  end_refused n is t st o = rw is (λ S. (ap (λ (p : ℕ). record { answer = AnswerRefused n; running = p }) (only-runs c t o S), st))

  module _ (x : Step) (v w : ℤ) (is : s ≡ Ok x) (k : w ≡ v) where
    pub end-done : x ≡ Done v → Ends c s a a (record { answer = AnswerDone w; running = c })
    unfolding Ends
    end-done e t st o = rw (is, e, k) (λ S. (ap (λ (p : ℕ). record { answer = AnswerDone v; running = p }) (only-runs c t o S), st))

    pub end-switches : (b : List ℕ) (p : ℕ) → x ≡ Switches v → Reschedules c a b p → Ends c s a b (record { answer = AnswerDone w; running = p })
    unfolding Ends Reschedules
    end-switches b p e run t st o = rw (is, e, k) (λ S. let r = run t st o in (ap (λ (q : ℕ). record { answer = AnswerDone v; running = q }) (r.1 S), r.0))

-- a call that `c` makes, then its end
pub leads-end : (rule : Tables → Outcome) (c : ℕ) (s : Result Step Refusal) (x y z : List ℕ) (r : Told) → ((t : Tables) → Sound t → Sound (rule t).tables) → Runs c x → Leads rule x y s → Ends c (by_number s) y z r → Meets rule x z r
unfolding Leads Ends Meets Does
leads-end rule c s x y z r keeps runs lead end t st S =
    let w = lead t st S in
    let e = end w.0 w.2 (subst (λ (p : ℕ). Only p w.0) (sym (runs t st S)) w.3) (subst (λ (o : Outcome). Sound o.tables) w.1 (keeps t S)) in
    (e.0 ∙ sym (ap told w.1), subst (λ (o : Outcome). Stands o.tables z) (sym w.1) e.1)

-- Branches

-- the value that a call answers, as it was passed on
pub answered : (v z : ℤ) → mag v < 2 ^ hbits w32 → v ≡ z → to_z w32 (of_z w32 v) ≡ z
answered v z f e = to_z-of_z w32 v (record { sfits = f }) ∙ e

-- a rule by another name
pub alike : (f g : Tables → Outcome) (a b : List ℕ) (r : Result Step Refusal) → ((t : Tables) → Stands t a → f t ≡ g t) → Leads g a b r → Leads f a b r
unfolding Leads
alike f g a b r e m t st S = let w = m t st S in (w.0, e t st ∙ w.1, w.2, w.3)

pub refuses : (f : Tables → Outcome) (n : Refusal) (bs : List ℕ) → ((t : Tables) → Stands t bs → Sound t → f t ≡ refused (refusal_number n) t) → Leads f bs bs (Err n)
unfolding Leads
refuses f n bs e t st S = (t, e t st S, st, still S t refl)

-- the first checks of a call refuse, whatever else it checks and does
pub checks-refuse : (call : Call) (n : Refusal) (bs : List ℕ) (cs : Tables → List Check) → ((t : Tables) → checks t call ≡ cs t) → ((t : Tables) → Stands t bs → (o : Outcome) → unless (λ m. refused m t) (cs t) o ≡ refused (refusal_number n) t) → Leads (λ t. step t call) bs bs (Err n)
unfolding step
checks-refuse call n bs cs e r = refuses (λ t. step t call) n bs (λ t st S. ap (λ (ks : List Check). unless (λ m. refused m t) ks (finish (deed t call))) (e t) ∙ r t st (finish (deed t call)))

-- a refusal that is passed on by `?`
pub passed-on : (f : Tables → Outcome) (a b : List ℕ) (n : Refusal) (r : Result Step Refusal) → IsErrAnd r (λ e. e ≡ n) → Leads f a b (Err n) → Leads f a b r
passed-on f a b n (Ok s) h l = absurd h
passed-on f a b n (Err e) h l = subst (λ (x : Refusal). Leads f a b (Err x)) (sym h) l

-- one that stands for a value that isn't there
pub lacks : (f : Tables → Outcome) (a b : List ℕ) {X : Type 0} (o : Option X) (e n : Refusal) (r : Result Step Refusal) → o ≡ None → Err e ≡ ok_or o n → IsErrAnd r (λ x. x ≡ e) → Leads f a b (Err n) → Leads f a b r
lacks f a b None e n r empty is h l = let k : e ≡ n = cc in passed-on f a b e r h (subst (λ (x : Refusal). Leads f a b (Err x)) (sym k) l)
lacks f a b (Some x) e n r empty is h l = absurd (cc)
