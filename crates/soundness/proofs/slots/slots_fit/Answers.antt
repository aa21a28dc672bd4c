use Rattle.std.proofs.Common.{rules, tests, ℕ}
use mathlib.Core.Bool.{Bool, ◌||◌}
use mathlib.Core.Path.{◌≡◌, ◌∙◌, ap, refl, sym}
use lib.Dec.{eqb}
use Rattle.layout.specs.Bytes.{byte_state, from_bytes}
use Rattle.layout.specs.Offsets.{priorities_at, states_at, used_at}
use Rattle.tables.specs.Limits.{process_limit}
use Rattle.tables.specs.Readers.{process}
use Rattle.tables.specs.declared.Process.{Process}
use Rattle.tables.specs.Test.{slot_fits}
use Rattle.std.specs.Prelude.{slice_range}
use Rattle.std.proofs.lemmas.Iterator.{YieldsList-from_slice, YieldsList-from_zip}
use Rattle.std.proofs.lemmas.Iterator.Consumers.{YieldsList-at, YieldsList-from_enumerate}
use Rattle.lists.proofs.Folds.{folded-all, numbered-at, numbered-long}
use Rattle.layout.proofs.Image.{process-said}
use Rattle.soundness.proofs.slots.slots_fit.Goals as goal

-- the test of a slot, of its number and its two bytes
abbrev fits : ℕ × (ℕ × ℕ) → Bool
fits p = eqb p.0 0 || slot_fits (record { state = byte_state p.1.0; priority = p.1.1 })

pub returns : goal.returns
returns c =
    let bs = c.args.bytes.now in
    let second : c.zip.result.b.rest.now ≡ slice_range bs priorities_at used_at = c.zip.ensures.second.0 in
    let zipped = YieldsList-from_zip (YieldsList-at c.zip.ensures.first (YieldsList-from_slice _ c.iter.ensures.rest)) (YieldsList-from_slice _ second) in
    let from = YieldsList-from_enumerate (YieldsList-at c.enumerate.ensures.source zipped) c.enumerate.ensures.count in
    folded-all c.fold.ensures.ran from fits (λ a x b q k. search (rules, tests)) process_limit (numbered-long bs states_at priorities_at priorities_at used_at process_limit refl refl (search rules) (search rules)) (0, (0, 0))
    (λ p. eqb p 0 || slot_fits (process (from_bytes bs) p))
    (λ i h. ap fits (numbered-at bs states_at priorities_at priorities_at used_at process_limit refl refl (search rules) (search rules) i h) ∙ ap (λ (x : Process). eqb i 0 || slot_fits x) (sym (process-said bs i h)))
