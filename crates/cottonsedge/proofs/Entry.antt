-- What the one-call entry promises, from what the call in place does. Assumes nothing.
use Prim.Native.Nat.{◌<◌, ℕ}
use mathlib.Core.Bool.{false, true}
use mathlib.Core.List.{List}
use mathlib.Core.Path.{◌∙◌, ◌≡◌, subst, sym}
use lib.IntN.{ℤ}
use lib.ListN.{get_or, length}
use mathlib.Core.Logic.{inl, inr, ◌≢◌, ◌⊎◌}
use borrow.Author.Tests.{ne_eqb}
use Rattle.layout.specs.Offsets.{size}
use mir.Syntax.{w32}
use mir.Val.{SFits, of_z, to_z}
use mir.ValLaws.{to_z-of_z}
use Rattle.layout.specs.Bytes.{from_bytes, to_bytes, well_formed}
use Rattle.layout.specs.Stands.{Does, Stands}
use Rattle.rules.specs.Enter.{enter, numbered}
use Rattle.rules.specs.declared.Answer.TheVariants.{Refused}
use Rattle.rules.specs.declared.Outcome.{Outcome}
use Rattle.std.specs.Prelude.{None, Some}
use Rattle.soundness.specs.Good.{good, runner_of_bytes}
use Rattle.tables.specs.Readers.{current_of, nobody}
use Rattle.tables.specs.Test.{sound_now}
use Rattle.tables.specs.declared.Tables.{Tables}
use Rattle.scheduling.specs.Steps.{Meets, Runs, told}
use Rattle.scheduling.specs.declared.step.Told.{Told}
use Rattle.layout.proofs.Image.{bytes_back, same_bytes, stands-made, stands_read}
use Rattle.lists.proofs.Bools.{split}
use Rattle.rules.proofs.Numbers.{enter-sound, enter-unsound}
use Rattle.soundness.proofs.GoodBytes.{good-formed, good-sound, none-bad, some-good}
use Rattle.cottonsedge.specs.Entries.{Called, answer_of, boot_answer, booted, bytes_after, check_answer}
use Rattle.cottonsedge.specs.Fields.{packed}
use Rattle.cottonsedge.proofs.Standing.{known-runs}

-- bytes of another length aren't good
short-bad : (bs : List ℕ) → length bs ≢ size → good bs ≡ false
unfolding good well_formed
short-bad bs h = rw (ne_eqb (length bs) size h)

-- nor are bytes that tell of nobody who runs
pub not-good : (bs : List ℕ) → (None ≡ runner_of_bytes bs) ⊎ (length bs ≢ size) → good bs ≡ false
not-good bs (inl e) = none-bad bs e
not-good bs (inr h) = short-bad bs h

-- Bytes that aren't good come back as they came, answered 15

module _ (bs : List ℕ) (n : ℕ) (a b : ℤ) (g : good bs ≡ false) where
  unsound : well_formed bs ≡ true → sound_now (from_bytes bs) ≡ false
  unfolding good
  unsound wf = sym (rw wf) ∙ g

  pub refused-answer : packed (Refused 15) nobody ≡ answer_of bs n a b
  unfolding answer_of
  refused-answer = split (well_formed bs) (λ wf. let e = enter-unsound (from_bytes bs) a b n (unsound wf) in sym (rw (wf, e.0, e.1))) (λ wf. sym (rw wf))

  pub refused-bytes : ((i : ℕ) → get_or bs i 0 < 256) → bs ≡ bytes_after bs n a b
  unfolding bytes_after
  refused-bytes byte = split (well_formed bs) (λ wf. sym (rw (wf, (enter-unsound (from_bytes bs) a b n (unsound wf)).0) (bytes_back bs byte wf))) (λ wf. sym (rw wf))

-- Good bytes are called by the rules

module _ (bs after : List ℕ) (n : ℕ) (a b : ℤ) (r : Told) (byte : (i : ℕ) → get_or bs i 0 < 256) (g : good bs ≡ true)
    (d : Meets (λ t. numbered t n a b) bs after r) where
  abbrev t : Tables
  t = from_bytes bs

  abbrev o : Outcome
  o = numbered t n a b

  did : (r ≡ told o) × Stands o.tables after
  unfolding Meets Does
  did = d t (stands_read bs byte (good-formed bs g)) (good-sound bs g)

  entered : ((enter t n a b).outcome ≡ o) × ((enter t n a b).running ≡ current_of o.tables)
  entered = enter-sound t a b n (good-sound bs g)

  pub called-bytes : after ≡ bytes_after bs n a b
  unfolding bytes_after
  called-bytes = same_bytes o.tables after (to_bytes o.tables) did.1 (stands-made o.tables did.1.held) ∙ sym (rw (good-formed bs g, entered.0))

  pub called-answer : packed r.answer r.running ≡ answer_of bs n a b
  unfolding answer_of
  called-answer = rw did.0 (sym (rw (good-formed bs g, entered.0, entered.1)))

-- Arguments that were handed on, read back from their bits
pub handed-on : (n : ℕ) (a b : ℤ) (bs after : List ℕ) (r : Told) → SFits w32 a → SFits w32 b → Meets (λ t. numbered t n (to_z w32 (of_z w32 a)) (to_z w32 (of_z w32 b))) bs after r → Meets (λ t. numbered t n a b) bs after r
handed-on n a b bs after r fa fb d =
    subst (λ (z : ℤ). Meets (λ t. numbered t n a z) bs after r) (to_z-of_z w32 b fb)
    (subst (λ (z : ℤ). Meets (λ t. numbered t n z (to_z w32 (of_z w32 b))) bs after r) (to_z-of_z w32 a fa) d)

-- What the entry tells and leaves

pub refused-bad : (bs after : List ℕ) (n : ℕ) (a b : ℤ) (r : ℕ) → good bs ≡ false → ((i : ℕ) → get_or bs i 0 < 256) → after ≡ bs → r ≡ packed (Refused 15) nobody → Called bs n a b r after
refused-bad bs after n a b r g byte ea e =
    record { answer = e ∙ refused-answer bs n a b g; bytes = ea ∙ refused-bytes bs n a b g byte }

pub called-good : (bs image after : List ℕ) (n : ℕ) (a b : ℤ) (c p k : ℕ) (r : Told) → SFits w32 a → SFits w32 b → Some c ≡ runner_of_bytes bs → image ≡ bs → ((i : ℕ) → get_or bs i 0 < 256)
    → (Runs c image → Meets (λ t. numbered t n (to_z w32 (of_z w32 a)) (to_z w32 (of_z w32 b))) image after r) → p ≡ r.running → k ≡ packed r.answer p → Called bs n a b k after
called-good bs image after n a b c p k r fa fb e same byte did ep ek =
    let known = some-good bs c e in
    let d = handed-on n a b bs after r fa fb ((rw same at did) (known-runs bs c known.1)) in
    record { answer = ek ∙ rw ep (called-answer bs after n a b r byte known.0 d); bytes = called-bytes bs after n a b r byte known.0 d }

-- What the other two entries answer and leave is one function of what was lent

pub boot-determined : (bs : List ℕ) (r r' : ℕ) (x x' : List ℕ) → (r ≡ boot_answer bs) × (x ≡ booted bs) → (r' ≡ boot_answer bs) × (x' ≡ booted bs) → (r ≡ r') × (x ≡ x')
boot-determined bs r r' x x' p q = (p.0 ∙ sym q.0, p.1 ∙ sym q.1)

pub check-determined : (bs : List ℕ) (r r' : ℕ) → r ≡ check_answer bs → r' ≡ check_answer bs → r ≡ r'
check-determined bs r r' p q = p ∙ sym q
