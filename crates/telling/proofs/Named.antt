-- The number alone of a refused resume or suspend names the state in which the process was found. Assumes nothing.
use Prim.Native.Nat.{ℕ}
use mathlib.Core.Bool.{true}
use mathlib.Core.Logic.{◌⊎◌, ⊎_elim}
use mathlib.Core.Option.{some, some-injective}
use mathlib.Core.Path.{◌≡◌, ◌∙◌, ap, refl, subst, sym}
use lib.IntN.{ℤ, nat_abs}
use Rattle.lists.specs.Lists.{Each}
use Rattle.tables.specs.declared.State.{State}
use Rattle.tables.specs.declared.State.TheVariants.{Free, Current, Ready, Suspended, Waiting}
use Rattle.tables.specs.declared.Tables.{Tables}
use Rattle.tables.specs.Readers.{state_of}
use Rattle.rules.specs.declared.Answer.TheVariants.{Refused}
use Rattle.rules.specs.declared.Call.{Call}
use Rattle.rules.specs.declared.Call.TheVariants.{Resume, Suspend}
use Rattle.rules.specs.Calls.{checks, state_refusal}
use Rattle.rules.specs.Enter.{Form, first, call_of, form_of, numbered}
use Rattle.rules.proofs.Refusals.{numbered-number}
use Rattle.telling.specs.Reasons.{says}

state-says : (st : State) → says (state_refusal st) st ≡ true
state-says Free = refl
state-says Current = refl
state-says Ready = refl
state-says Suspended = refl
state-says (Waiting s) = refl

module _ (t : Tables) (a : ℤ) where
  abbrev found : State
  found = state_of t (nat_abs a)

  -- what each check that holds says is so
  abbrev SayTrue : Call → Type 0
  SayTrue c = Each (λ k. k.holds ≡ true → says k.number found ≡ true) (checks t c)

  resume-says : SayTrue (Resume a)
  resume-says = (λ h. refl, (λ h. h, (λ h. state-says found, tt)))

  suspend-says : SayTrue (Suspend a)
  suspend-says = (λ h. refl, (λ h. refl, (λ h. h, (λ h. state-says found, tt))))

  -- resume is call 07, suspend call 08
  pub state-named : (n : ℕ) (b : ℤ) (m : ℕ) → (n ≡ 7) ⊎ (n ≡ 8) → (numbered t n a b).answer ≡ Refused m → says m found ≡ true
  state-named n b m = ⊎_elim (named 7 (first Resume) refl resume-says) (named 8 (first Suspend) refl suspend-says)
    where
      named : (i : ℕ) (f : Form) → form_of i ≡ some f → SayTrue (call_of f a b) → n ≡ i → (numbered t n a b).answer ≡ Refused m → says m found ≡ true
      named i f k true_of z =
          numbered-number t (λ j. says j found ≡ true) n a b m refl refl
          (λ g e. subst (λ (h : Form). SayTrue (call_of h a b)) (some-injective f g (sym k ∙ ap form_of (sym z) ∙ e)) true_of)
