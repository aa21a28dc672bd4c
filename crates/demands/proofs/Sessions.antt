-- Demand 3, of the bytes that any session leaves and of what the firmware sees of it. Assumes nothing.
use Prim.Native.Nat.{ℕ}
use mathlib.Core.Bool.{true}
use mathlib.Core.List.{List, [], ◌∷◌}
use mathlib.Core.Path.{◌∙◌, ◌≡◌, ap, refl, sym}
use lib.ListN.{length}
use mir.Syntax.{w32}
use mir.Val.{of_z}
use Rattle.layout.specs.Bytes.{from_bytes, to_bytes}
use Rattle.layout.specs.Offsets.{size}
use Rattle.lists.specs.Lists.{filter, first_or}
use Rattle.lists.specs.Numbers.{listed}
use Rattle.promises.specs.Demand.{Demand3}
use Rattle.promises.specs.Record.{AllFit, Request, after, made, record_of}
use Rattle.rules.specs.Answers.{number_of, value_of}
use Rattle.soundness.specs.Good.{good}
use Rattle.tables.specs.Boot.{boot}
use Rattle.tables.specs.Counts.{CountsFit}
use Rattle.tables.specs.Readers.{current_of, line}
use Rattle.tables.specs.Sound.{Sound}
use Rattle.cottonsedge.specs.Entries.{answer_of, booted}
use Rattle.cottonsedge.specs.Fields.{process_field, refusal_field, unpacked, value_field}
use Rattle.promises.proofs.Demand.{demand3}
use Rattle.promises.proofs.Runs.{boot-run-fits, boot-run-sound}
use Rattle.cottonsedge.proofs.BootBytes.{boot-bytes}
use Rattle.cottonsedge.proofs.Calls.{back, call-answer, call-bytes, call-process, call-refusal, call-value}
use Rattle.cottonsedge.proofs.Standing.{sound-good}
use Rattle.demands.specs.Demands.{Demand2, Kernel}
use Rattle.demands.specs.Sessions.{AllAsked, Steps, exchanges, given, left, record_seen, told_last}
use Rattle.demands.proofs.Asked.{asked-fit}
use Rattle.demands.proofs.SmallBytes.{sound-bytes}

boot-runs : current_of boot ≡ 0
unfolding boot line filter first_or listed
boot-runs = refl

-- From the bytes of the boot tables, where each step is allowed

module _ (k : Kernel) where
  pub steps-bytes : (requests : List Request) → AllFit requests → Steps k (to_bytes boot) requests → left k (to_bytes boot) requests ≡ to_bytes (after boot requests)
  unfolding left after Steps
  steps-bytes [] f s = refl
  steps-bytes (q ∷ earlier) (f, fs) (s, ss) =
      s.bytes ∙ rw (steps-bytes earlier fs ss) (call-bytes (boot-run-sound earlier) (boot-run-fits earlier fs) q.number q.a q.b)

  -- what is answered then

  module _ (q : Request) (earlier : List Request) (f : AllFit (q ∷ earlier)) (s : Steps k (to_bytes boot) (q ∷ earlier)) where
    abbrev answer : ℕ
    answer = (given k (to_bytes boot) earlier q).answer

    sound : Sound (after boot earlier)
    sound = boot-run-sound earlier

    counts-fit : CountsFit (after boot earlier)
    counts-fit = boot-run-fits earlier f.1

    answered : answer ≡ answer_of (to_bytes (after boot earlier)) q.number q.a q.b
    unfolding Steps
    answered = s.0.answer ∙ ap (λ (bs : List ℕ). answer_of bs q.number q.a q.b) (steps-bytes earlier f.1 s.1)

    pub steps-refusal : refusal_field answer ≡ number_of (made (after boot earlier) q).answer
    steps-refusal = ap refusal_field answered ∙ call-refusal sound counts-fit q.number q.a q.b f.0.a f.0.b

    pub steps-value : value_field answer ≡ of_z w32 (value_of (made (after boot earlier) q).answer)
    steps-value = ap value_field answered ∙ call-value sound counts-fit q.number q.a q.b f.0.a f.0.b

    pub steps-process : process_field answer ≡ current_of (made (after boot earlier) q).tables
    steps-process = ap process_field answered ∙ call-process sound counts-fit q.number q.a q.b f.0.a f.0.b

    steps-answer : unpacked answer ≡ (made (after boot earlier) q).answer
    steps-answer = ap unpacked answered ∙ call-answer sound counts-fit q.number q.a q.b f.0.a f.0.b

  -- the process told last is the one that runs
  steps-told : (requests : List Request) → AllFit requests → Steps k (to_bytes boot) requests → told_last (exchanges k (to_bytes boot) requests) ≡ current_of (after boot requests)
  unfolding exchanges after
  steps-told [] f s = sym boot-runs
  steps-told (q ∷ earlier) f s = steps-process q earlier f s

  steps-record : (requests : List Request) → AllFit requests → Steps k (to_bytes boot) requests → record_seen (exchanges k (to_bytes boot) requests) ≡ record_of boot requests
  unfolding exchanges record_seen record_of Steps
  steps-record [] f s = refl
  steps-record (q ∷ earlier) (f, fs) (s, ss) = rw (steps-told earlier fs ss, steps-record earlier fs ss, steps-answer q earlier (f, fs) (s, ss))

  -- a kernel that meets demand 2 takes no other step
  pub demand2-steps : Demand2 k → (requests : List Request) → AllAsked requests → Steps k (to_bytes boot) requests
  unfolding Steps
  demand2-steps d [] h = tt
  demand2-steps d (q ∷ earlier) (h, hs) =
      let fs = asked-fit earlier hs in
      let ss : Steps k (to_bytes boot) earlier = demand2-steps d earlier hs in
      (d earlier (left k (to_bytes boot) earlier) q (rw (steps-bytes earlier fs ss) (sound-bytes (boot-run-sound earlier) (boot-run-fits earlier fs))) h, ss)

-- Begun with what `cottonsedge_boot` writes

module _ (k : Kernel) (d : Demand2 k) (bs : List ℕ) (l : length bs ≡ size) (requests : List Request) (hs : AllAsked requests) where
  fits : AllFit requests
  fits = asked-fit requests hs

  steps : Steps k (to_bytes boot) requests
  steps = demand2-steps k d requests hs

  -- the bytes that are left stand for the tables that the rules leave
  pub left-tables : from_bytes (left k (booted bs) requests) ≡ after boot requests
  left-tables = rw (boot-bytes bs l, steps-bytes k requests fits steps) (back (boot-run-sound requests) (boot-run-fits requests fits))

  -- they are sound
  pub left-good : good (left k (booted bs) requests) ≡ true
  left-good = rw (boot-bytes bs l, steps-bytes k requests fits steps) (sound-good (boot-run-sound requests) (boot-run-fits requests fits))

  -- the process that the last answer told is the one that runs
  pub told-runs : told_last (exchanges k (booted bs) requests) ≡ current_of (from_bytes (left k (booted bs) requests))
  told-runs = rw (left-tables, boot-bytes bs l) (steps-told k requests fits steps)

  -- the record that is made of what is seen is that of the rules
  pub seen-record : record_seen (exchanges k (booted bs) requests) ≡ record_of boot requests
  seen-record = rw (boot-bytes bs l) (steps-record k requests fits steps)

  -- they are the tables of demand 3, with that record
  pub demand3-of-bytes : Demand3 (from_bytes (left k (booted bs) requests)) (record_seen (exchanges k (booted bs) requests))
  demand3-of-bytes = rw (left-tables, seen-record) (demand3 requests)
