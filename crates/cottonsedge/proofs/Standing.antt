-- Which bytes are good, and which tables stand in bytes. Assumes nothing.
use Prim.Native.Nat.{◌<◌, ◌≤◌, ℕ}
use native.Mathlib.Omega.{arith}
use mathlib.Core.Bool.{true}
use mathlib.Core.List.{List}
use mathlib.Core.Path.{◌∙◌, ◌≡◌, ap, refl}
use lib.ListN.{get_or, length}
use borrow.Author.Tests.{le-ltb}
use Rattle.layout.specs.Bytes.{from_bytes, to_bytes}
use Rattle.layout.specs.Stands.{Held, Named}
use Rattle.lists.specs.Lists.{times}
use Rattle.soundness.specs.Good.{good}
use Rattle.tables.specs.Limits.{process_limit}
use Rattle.tables.specs.Readers.{current_of, state_of}
use Rattle.tables.specs.Sound.{Sound}
use Rattle.tables.specs.declared.State.{State}
use Rattle.tables.specs.declared.State.TheVariants.{Current, Free, Ready, Suspended, Waiting}
use Rattle.tables.specs.declared.Tables.{Tables}
use Rattle.tables.specs.Counts.{CountsFit}
use Rattle.scheduling.specs.Steps.{Runs}
use Rattle.layout.proofs.Image.{formed-made, stands-is, tables-back}
use Rattle.lists.proofs.Bools.{and_in, below?}
use Rattle.lists.proofs.Rows.{times-at}
use Rattle.tables.proofs.Sentences.{waiter-below}
use Rattle.tables.proofs.TestLaws.{sound-checked}

-- sound tables whose counts fit can be held
pub sound-held : {t : Tables} → Sound t → CountsFit t → Held t
sound-held {t} S fits =
    record {
      slots = S.laid.slots;
      entries = S.laid.entries;
      places = S.laid.places;
      waits = λ p h. named p (state_of t p) refl;
      fits = fits;
      row = λ i h. let l : length t.order ≡ process_limit = S.laid.places in placed (get_or t.order i 0) (times-at t.order i (omega arith));
    }
  where
    named : (p : ℕ) (st : State) → state_of t p ≡ st → Named st
    named p Free e = tt
    named p Current e = tt
    named p Ready e = tt
    named p Suspended e = tt
    named p (Waiting s) e = waiter-below S p s e

    placed : (p : ℕ) → 1 ≤ times p t.order → p < process_limit
    placed p k = below? p process_limit (λ h. h) (λ h. let e : times p t.order ≡ 0 = S.laid.order p ∙ rw (le-ltb p process_limit h) in absurd (omega arith))

-- sound tables stand in good bytes
pub sound-good : {t : Tables} → Sound t → CountsFit t → good (to_bytes t) ≡ true
unfolding good
sound-good {t} S fits = let h = sound-held S fits in and_in (formed-made t h) (rw (tables-back t h) (sound-checked S))

-- who is current in the tables that the bytes stand for runs
pub known-runs : (bs : List ℕ) (c : ℕ) → c ≡ current_of (from_bytes bs) → Runs c bs
known-runs bs c e t st S = e ∙ ap current_of (stands-is t bs st)
