-- The call by value, over the call in place. Assumes nothing.
use Prim.Native.Nat.{◌+◌, ◌<◌, ℕ}
use native.Mathlib.Omega.{arith}
use mathlib.Core.Bool.{false, true, true≢false}
use mathlib.Core.List.{List}
use mathlib.Core.Path.{◌∙◌, ◌≡◌, refl, subst, sym}
use lib.IntN.{ℤ}
use lib.ListN.{length}
use borrow.Author.Tests.{le-ltb}
use Rattle.layout.specs.Bytes.{from_bytes, state_byte, to_bytes, waiting_from}
use Rattle.layout.specs.Offsets.{order_at, states_at}
use Rattle.layout.specs.Stands.{Does, Held, Named, Stands}
use Rattle.rules.specs.Answers.{refused}
use Rattle.rules.specs.Enter.{enter, numbered}
use Rattle.soundness.specs.Good.{good}
use Rattle.tables.specs.Limits.{process_limit, semaphore_limit}
use Rattle.tables.specs.Readers.{state_of, nobody}
use Rattle.tables.specs.Sound.{Sound}
use Rattle.tables.specs.Test.{sound_now}
use Rattle.tables.specs.declared.State.{State}
use Rattle.tables.specs.declared.State.TheVariants.{Current, Free, Ready, Suspended, Waiting}
use Rattle.tables.specs.declared.Tables.{Tables}
use Rattle.tables.specs.Counts.{CountsFit}
use Rattle.scheduling.specs.Steps.{Meets, told}
use Rattle.scheduling.specs.declared.step.Told.{Told}
use Rattle.layout.proofs.Image.{byte_at, formed-place, formed-state, stands-is, stands-made, tables-back}
use Rattle.layout.proofs.Regions.{place_byte, state-byte}
use Rattle.lists.proofs.Bools.{below?, split}
use Rattle.tables.proofs.TestLaws.{checked-sound, sound-checked}
use Rattle.soundness.proofs.GoodBytes.{good-formed, good-sound}
use Rattle.cottonsedge.proofs.Standing.{sound-good}

module _ (t : Tables) (n : ℕ) (a b : ℤ) (slots : length t.processes ≡ process_limit) (entries : length t.semaphores ≡ semaphore_limit) (places : length t.order ≡ process_limit) (fits : CountsFit t) where
  pub value-unsound : good (to_bytes t) ≡ false → record { outcome = refused 15 t; running = nobody } ≡ enter t n a b
  unfolding enter
  value-unsound g = split (sound_now t) (λ e. absurd (true≢false (sym (sound-good (checked-sound e) fits) ∙ g))) (λ e. sym (rw e))

  module _ (g : good (to_bytes t) ≡ true) where
    state-named : (st : State) → state_byte st < waiting_from + semaphore_limit → Named st
    state-named Free h = tt
    state-named Current h = tt
    state-named Ready h = tt
    state-named Suspended h = tt
    state-named (Waiting s) h = below? s semaphore_limit (λ k. k) (λ k. let e : state_byte (Waiting s) ≡ 255 = rw (le-ltb s semaphore_limit k) in absurd (omega arith))

    held : Held t
    held =
        let wf = good-formed (to_bytes t) g in
        record {
          slots = slots;
          entries = entries;
          places = places;
          waits = λ p h. state-named (state_of t p) (subst (λ (k : ℕ). k < waiting_from + semaphore_limit) (byte_at t (states_at + p) (omega arith) ∙ state-byte t p (states_at + p) h refl) (formed-state (to_bytes t) wf p h));
          fits = fits;
          row = λ i h. subst (λ (k : ℕ). k < process_limit) (byte_at t (order_at + i) (omega arith) ∙ place_byte t i (order_at + i) h refl) (formed-place (to_bytes t) wf i h);
        }

    sound : Sound t
    sound = subst Sound (tables-back t held) (good-sound (to_bytes t) g)

    module _ (after : List ℕ) (r : Told) (d : Meets (λ t. numbered t n a b) (to_bytes t) after r) where
      did : (r ≡ told (numbered t n a b)) × Stands (numbered t n a b).tables after
      unfolding Meets Does
      did = d t (stands-made t held) sound

      pub value-called : record { outcome = record { tables = from_bytes after; answer = r.answer }; running = r.running } ≡ enter t n a b
      unfolding enter
      value-called = rw (stands-is (numbered t n a b).tables after did.1, did.0) (sym (rw (sound-checked sound)))
