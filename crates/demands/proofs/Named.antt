-- The number alone of a refused resume or suspend names the state in which the process was found, of the bytes and of the number that is answered. Assumes nothing.
use Prim.Native.Nat.{ℕ}
use mathlib.Core.Bool.{false, true}
use mathlib.Core.List.{List}
use mathlib.Core.Logic.{◌⊎◌}
use mathlib.Core.Path.{◌≡◌, refl}
use lib.IntN.{nat_abs}
use Rattle.layout.specs.Bytes.{from_bytes}
use Rattle.promises.specs.Record.{Request, made}
use Rattle.rules.specs.Answers.{number_of}
use Rattle.rules.specs.declared.Answer.{Answer}
use Rattle.rules.specs.declared.Answer.TheVariants.{Done, Refused}
use Rattle.soundness.specs.Good.{good}
use Rattle.tables.specs.Readers.{state_of}
use Rattle.tables.specs.declared.State.{State}
use Rattle.telling.specs.Reasons.{says}
use Rattle.cottonsedge.specs.Entries.{answer_of}
use Rattle.cottonsedge.specs.Fields.{refusal_field}
use Rattle.lists.proofs.Bools.{split}
use Rattle.telling.proofs.Named.{state-named}
use Rattle.demands.specs.Demands.{Allowed, Asked, Bytes, Result}
use Rattle.demands.proofs.Given.{sound-refusal, unsound-refusal}

module _ (bs : List ℕ) (q : Request) (byte : Bytes bs) (k : Asked q) (c : (q.number ≡ 7) ⊎ (q.number ≡ 8)) where
  abbrev found : State
  found = state_of (from_bytes bs) (nat_abs q.a)

  abbrev Named : Type 0
  Named = says (refusal_field (answer_of bs q.number q.a q.b)) found ≡ true

  sound-named : good bs ≡ true → Named
  sound-named g = rw (sound-refusal bs q byte k g) (go (made (from_bytes bs) q).answer refl)
    where
      go : (r : Answer) → (made (from_bytes bs) q).answer ≡ r → says (number_of r) found ≡ true
      go (Done v) e = refl
      go (Refused m) e = state-named (from_bytes bs) q.a q.number q.b m c e

  unsound-named : good bs ≡ false → Named
  unsound-named g = rw (unsound-refusal bs q g)

-- resume is call 07, suspend call 08: of all bytes, and of every result that the contract allows
pub state-named-of-bytes : (bs : List ℕ) (q : Request) (x : Result) → Bytes bs → Asked q → Allowed bs q x → (q.number ≡ 7) ⊎ (q.number ≡ 8) → says (refusal_field x.answer) (state_of (from_bytes bs) (nat_abs q.a)) ≡ true
state-named-of-bytes bs q x byte k a c = rw a.answer (split (good bs) (sound-named bs q byte k c) (unsound-named bs q byte k c))
