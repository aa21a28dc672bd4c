-- Each refusal number is given exactly when the paper's table says, of the bytes that are lent and the number that is answered. Assumes nothing.
use Prim.Native.Nat.{ℕ}
use mathlib.Core.Bool.{false, true, true≢false}
use mathlib.Core.List.{List}
use mathlib.Core.Logic.{◌≢◌, ◌↔◌, inl, inr, ⊎_elim}
use mathlib.Core.Path.{◌≡◌, ◌∙◌, ap, subst, sym}
use Rattle.layout.specs.Bytes.{from_bytes}
use Rattle.promises.specs.Record.{Request, made}
use Rattle.rules.specs.Answers.{number_of}
use Rattle.telling.specs.Reasons.{FirstOf}
use Rattle.rules.specs.declared.Answer.{Answer}
use Rattle.rules.specs.declared.Answer.TheVariants.{Done, Refused}
use Rattle.soundness.specs.Good.{good}
use Rattle.cottonsedge.specs.Entries.{answer_of}
use Rattle.cottonsedge.specs.Fields.{refusal_field}
use Rattle.lists.proofs.Bools.{split}
use Rattle.telling.proofs.Given.{numbered-exactly}
use Rattle.cottonsedge.proofs.Calls.{call-refusal}
use Rattle.cottonsedge.proofs.Entry.{refused-answer}
use Rattle.demands.specs.Demands.{Allowed, Asked, Bytes, Result, reasons_of_bytes}
use Rattle.demands.proofs.Lent.{lent}

-- a number that isn't 0 is a refusal's
number-refused : (r : Answer) (n : ℕ) → n ≢ 0 → (number_of r ≡ n) ↔ (r ≡ Refused n)
number-refused (Done v) n h = (λ e. absurd (h (sym e)), λ e. ap number_of e)
number-refused (Refused m) n h = (ap Refused, ap number_of)

-- the refusal of a call on sound tables is that of the rules
pub sound-refusal : (bs : List ℕ) (q : Request) → Bytes bs → Asked q → good bs ≡ true → refusal_field (answer_of bs q.number q.a q.b) ≡ number_of (made (from_bytes bs) q).answer
sound-refusal bs q byte k g =
    let l = lent bs byte g in
    subst (λ (x : List ℕ). refusal_field (answer_of x q.number q.a q.b) ≡ number_of (made (from_bytes bs) q).answer) l.back
    (call-refusal l.sound l.fits q.number q.a q.b k.arguments.a k.arguments.b)

-- of others 15
pub unsound-refusal : (bs : List ℕ) (q : Request) → good bs ≡ false → refusal_field (answer_of bs q.number q.a q.b) ≡ 15
unsound-refusal bs q g = ap refusal_field (sym (refused-answer bs q.number q.a q.b g))

module _ (bs : List ℕ) (q : Request) (byte : Bytes bs) (k : Asked q) (n : ℕ) (h : n ≢ 0) where
  abbrev answer : ℕ
  answer = answer_of bs q.number q.a q.b

  abbrev Given : Type 0
  Given = (refusal_field answer ≡ n) ↔ FirstOf (reasons_of_bytes bs q) n

  -- sound tables: by the reasons of the rules
  sound-given : good bs ≡ true → Given
  sound-given g =
      let e = sound-refusal bs q byte k g in
      let l = lent bs byte g in
      let rules = numbered-exactly l.sound l.fits q.number q.a q.b n in
      let refused = number-refused (made (from_bytes bs) q).answer n h in
      (λ w. inr (λ f. true≢false (sym g ∙ f), rules.0 (refused.0 (sym e ∙ w))), ⊎_elim (λ w. absurd (true≢false (sym g ∙ w.1))) (λ w. e ∙ refused.1 (rules.1 w.1)))

  -- others: 15, before all
  unsound-given : good bs ≡ false → Given
  unsound-given g =
      let e = unsound-refusal bs q g in
      (λ w. inl (sym e ∙ w, g), ⊎_elim (λ w. e ∙ w.0) (λ w. absurd (w.0 g)))

pub given-of-bytes : (bs : List ℕ) (q : Request) (x : Result) → Bytes bs → Asked q → Allowed bs q x → (n : ℕ) → n ≢ 0 → (refusal_field x.answer ≡ n) ↔ FirstOf (reasons_of_bytes bs q) n
given-of-bytes bs q x byte k c n h = rw c.answer (split (good bs) (sound-given bs q byte k n h) (unsound-given bs q byte k n h))
