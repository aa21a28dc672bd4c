-- Demand 1, of every result that the contract of a call allows. Assumes nothing.
use Prim.Native.Nat.{ℕ}
use native.Mathlib.Omega.{arith}
use mathlib.Core.Bool.{false, true≢false}
use mathlib.Core.List.{List}
use mathlib.Core.Logic.{◌≢◌}
use mathlib.Core.Path.{◌∙◌, ◌≡◌, ap, refl, subst, sym}
use mir.Syntax.{w32}
use mir.Val.{of_z}
use Rattle.layout.specs.Bytes.{to_bytes}
use Rattle.promises.specs.Record.{Request, made}
use Rattle.rules.specs.Answers.{Ranged, number_of, value_of}
use Rattle.rules.specs.declared.Answer.{Answer}
use Rattle.rules.specs.declared.Answer.TheVariants.{Done, Refused}
use Rattle.soundness.specs.Good.{good}
use Rattle.tables.specs.Counts.{CountsFit}
use Rattle.tables.specs.Readers.{current_of}
use Rattle.tables.specs.Sound.{Sound}
use Rattle.tables.specs.declared.Tables.{Tables}
use Rattle.cottonsedge.specs.Entries.{answer_of, bytes_after}
use Rattle.cottonsedge.specs.Fields.{refusal_field}
use Rattle.lists.proofs.Bools.{split}
use Rattle.rules.proofs.Refusals.{numbered-ranged, numbered-refused, ranged-last}
use Rattle.cottonsedge.proofs.Calls.{call-answer, call-bytes, call-packed, call-process, call-refusal, call-runs, call-value, value-fits}
use Rattle.cottonsedge.proofs.Entry.{refused-answer, refused-bytes}
use Rattle.cottonsedge.proofs.FieldLaws.{packed-small}
use Rattle.cottonsedge.proofs.Standing.{sound-good}
use Rattle.demands.specs.Demands.{Allowed, Asked, Bytes, Demand1, Result}
use Rattle.demands.proofs.Lent.{lent}

-- what the contract allows
abbrev pub exact : List ℕ → Request → Result
exact bs q = record { answer = answer_of bs q.number q.a q.b; bytes = bytes_after bs q.number q.a q.b }

-- Sound tables

module _ {t : Tables} (S : Sound t) (F : CountsFit t) (q : Request) (k : Asked q) where
  abbrev r : Answer
  r = (made t q).answer

  ranged : Ranged r
  ranged = numbered-ranged t q.number q.a q.b

  refusal : refusal_field (exact (to_bytes t) q).answer ≡ number_of r
  refusal = call-refusal S F q.number q.a q.b k.arguments.a k.arguments.b

  nothing-done : (x : Answer) → r ≡ x → number_of x ≢ 0 → (of_z w32 (value_of x) ≡ 0xffffffff) × ((made t q).tables ≡ t)
  nothing-done (Done v) e h = absurd (h refl)
  nothing-done (Refused m) e h = (refl, numbered-refused t q.number q.a q.b m e)

  sound-demand1 : Demand1 (to_bytes t) (exact (to_bytes t) q)
  sound-demand1 =
      let n = q.number in
      let a = q.a in
      let b = q.b in
      let fa = k.arguments.a in
      let fb = k.arguments.b in
      let g = sound-good S F in
      record {
        small = rw (call-packed S F n a b) (packed-small r (current_of (made t q).tables) (value-fits S F n a b fa fb) (omega (arith, call-runs S F n a b)) (omega (arith, ranged-last r ranged)));
        refused = rw (refusal, call-value S F n a b fa fb, call-bytes S F n a b) (λ h. let w = nothing-done r refl h in (w.0, ap to_bytes w.1));
        done = λ h. g;
        unsound = λ h. absurd (true≢false (sym g ∙ h));
        sound = λ h. rw (call-answer S F n a b fa fb, call-process S F n a b fa fb) (ranged, call-runs S F n a b);
      }

-- Others

unsound-demand1 : (bs : List ℕ) (q : Request) → Bytes bs → good bs ≡ false → Demand1 bs (exact bs q)
unsound-demand1 bs q byte g =
    rw (← refused-answer bs q.number q.a q.b g, ← refused-bytes bs q.number q.a q.b g byte)
    record {
      small = omega arith;
      refused = λ h. (refl, refl);
      done = λ h. absurd (omega arith);
      unsound = λ h. (refl, refl);
      sound = λ h. absurd (true≢false (sym h ∙ g));
    }

exact-demand1 : (bs : List ℕ) (q : Request) → Bytes bs → Asked q → Demand1 bs (exact bs q)
exact-demand1 bs q byte k =
    split (good bs)
    (λ g. let l = lent bs byte g in subst (λ (x : List ℕ). Demand1 x (exact x q)) l.back (sound-demand1 l.sound l.fits q k))
    (unsound-demand1 bs q byte)

pub demand1 : (bs : List ℕ) (q : Request) (x : Result) → Bytes bs → Asked q → Allowed bs q x → Demand1 bs x
demand1 bs q x byte k c = rw (c.answer, c.bytes) (exact-demand1 bs q byte k)
