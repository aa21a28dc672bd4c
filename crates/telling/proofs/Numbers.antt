-- Which call a number is, and what a refusal number says. Assumes nothing.
use Prim.Native.Nat.{ℕ}
use mathlib.Core.Bool.{true}
use mathlib.Core.List.{List, ◌∷◌, ◌++◌, []}
use mathlib.Core.Path.{◌≡◌, refl, ap, ◌∙◌}
use lib.IntN.{ℤ, pos, negsuc}
use Rattle.lists.proofs.Bools.{split}
use Rattle.tables.specs.declared.Tables.{Tables}
use Rattle.rules.specs.declared.Answer.TheVariants.{Refused}
use Rattle.rules.specs.declared.Outcome.{Outcome}
use Rattle.rules.specs.Answers.{value_of, refused, Check, ◌when◌, NoneHolds, unless}
use Rattle.rules.specs.declared.Call.{Call}
use Rattle.rules.specs.declared.Call.TheVariants.{Wait, Signal, MakeSemaphore, Delete, Reset, MakeProcess, Resume, Suspend, Kill, Yield, Count}
use Rattle.rules.specs.Calls.{checks, step, deed, finish}
use Rattle.rules.specs.Enter.{numbered}
use Rattle.rules.proofs.Refusals.{step-refused, finish-done}
use Rattle.telling.specs.Telling.{FirstHolds}

-- The calls by their numbers and the arguments that they use

pub call-numbers : (t : Tables) (a b : ℤ)
    → (numbered t 1 a (pos 0) ≡ step t (Wait a))
    × (numbered t 2 a (pos 0) ≡ step t (Signal a))
    × (numbered t 3 a (pos 0) ≡ step t (MakeSemaphore a))
    × (numbered t 4 a (pos 0) ≡ step t (Delete a))
    × (numbered t 5 a b ≡ step t (Reset a b))
    × (numbered t 6 a (pos 0) ≡ step t (MakeProcess a))
    × (numbered t 7 a (pos 0) ≡ step t (Resume a))
    × (numbered t 8 a (pos 0) ≡ step t (Suspend a))
    × (numbered t 9 a (pos 0) ≡ step t (Kill a))
    × (numbered t 10 (pos 0) (pos 0) ≡ step t Yield)
    × (numbered t 11 a (pos 0) ≡ step t (Count a))
unfolding numbered
call-numbers t a b = (refl, refl, refl, refl, refl, refl, refl, refl, refl, refl, refl)

-- Refusals

unless-first : {A : Type 0} (refuse : ℕ → A) (before after : List Check) (n : ℕ) (o : A) → NoneHolds before → unless refuse (before ++ (n when true) ∷ after) o ≡ refuse n
unless-first refuse [] after n o h = refl
unless-first refuse (c ∷ before) after n o (h, hs) = rw h (unless-first refuse before after n o hs)

-- of the checks that a call fails the first in order gives the refusal number
pub refused-first : (t : Tables) (c : Call) (before after : List Check) (n : ℕ) → checks t c ≡ before ++ (n when true) ∷ after → NoneHolds before → step t c ≡ refused n t
unfolding step
refused-first t c before after n e h = ap (λ (cs : List Check). unless (λ m. refused m t) cs (finish (deed t c))) e ∙ unless-first (λ m. refused m t) before after n (finish (deed t c)) h

unless-only : (t : Tables) (cs : List Check) (o : Outcome) (n : ℕ) → (o.answer ≡ Refused n → ⊥) → (unless (λ m. refused m t) cs o).answer ≡ Refused n → FirstHolds cs n
unless-only t [] o n h e = absurd (h e)
unless-only t (c ∷ cs) o n h e =
    split c.holds
    (λ d. let given = rw d at e in let k : c.number ≡ n = cc in record { before = []; after = cs; none = tt; found = rw (← k, ← d) })
    (λ d.
    let r = unless-only t cs o n h (rw d at e) in
    record { before = c ∷ r.before; after = r.after; none = (d, r.none); found = ap (λ (l : List Check). c ∷ l) r.found })

-- and a refusal number is given by such a check only
pub refused-only : (t : Tables) (c : Call) (n : ℕ) → (step t c).answer ≡ Refused n → FirstHolds (checks t c) n
unfolding step
refused-only t c n = unless-only t (checks t c) (finish (deed t c)) n (finish-done (deed t c) n)

-- a refused call changes nothing, and its value is -1
pub refused-nothing : (t : Tables) (c : Call) (n : ℕ) → (step t c).answer ≡ Refused n → ((step t c).tables ≡ t) × (value_of (step t c).answer ≡ negsuc 0)
refused-nothing t c n e = (step-refused t c n e, ap value_of e)

module _ (t : Tables) (n : ℕ) where
  -- a semaphore number below 0 is refused with 1
  pub no-semaphore : (step t (Wait (negsuc n)) ≡ refused 1 t) × (step t (Signal (negsuc n)) ≡ refused 1 t) × (step t (Delete (negsuc n)) ≡ refused 1 t) × (step t (Count (negsuc n)) ≡ refused 1 t)
  unfolding step
  no-semaphore = (refl, refl, refl, refl)

  -- but a reset to a count below 0 with 3
  pub no-reset : (c : ℕ) (b : ℤ) → (step t (Reset (negsuc n) (pos c)) ≡ refused 1 t) × (step t (Reset b (negsuc c)) ≡ refused 3 t)
  unfolding step
  no-reset c b = (refl, refl)

  -- a process number below 0 is refused with 6, a priority below 0 with 11
  pub no-process : (step t (Resume (negsuc n)) ≡ refused 6 t) × (step t (Suspend (negsuc n)) ≡ refused 6 t) × (step t (Kill (negsuc n)) ≡ refused 6 t) × (step t (MakeProcess (negsuc n)) ≡ refused 11 t)
  unfolding step
  no-process = (refl, refl, refl, refl)
