use Rattle.std.proofs.Common.{rules, tests, ltb, ◌+◌, ℕ}
use mathlib.Core.Bool.{Bool, ◌&&◌}
use Rattle.layout.specs.Bytes.{place_named, state_named, waiting_from}
use Rattle.layout.specs.Offsets.{next_semaphore_at, order_at, priorities_at, states_at}
use Rattle.tables.specs.Limits.{process_limit, semaphore_limit}
use Rattle.std.proofs.lemmas.Iterator.{YieldsList-from_slice, YieldsList-from_zip}
use Rattle.std.proofs.lemmas.Iterator.Consumers.{YieldsList-at}
use mathlib.Core.Path.{◌≡◌, ap, refl}
use Rattle.std.specs.Prelude.{slice_range}
use Rattle.lists.proofs.Folds.{folded-all, parts-at, parts-long}
use Rattle.soundness.proofs.form.both_named.Goals as goal

-- both tests, of a state and a place
abbrev named : ℕ × ℕ → Bool
named p = ltb p.0 (waiting_from + semaphore_limit) && ltb p.1 process_limit

pub returns : goal.returns
returns c =
    let bs = c.args.bytes.now in
    let places : c.zip.result.b.rest.now ≡ slice_range bs order_at next_semaphore_at = c.zip.ensures.second.0 in
    let from = YieldsList-from_zip (YieldsList-at c.zip.ensures.first (YieldsList-from_slice _ c.iter.ensures.rest)) (YieldsList-from_slice _ places) in
    folded-all c.fold.ensures.ran from named (λ a x b q k. search (rules, tests)) process_limit (parts-long bs states_at priorities_at order_at next_semaphore_at process_limit refl refl (search rules) (search rules)) (0, 0)
    (λ i. state_named bs i && place_named bs i) (λ i h. ap named (parts-at bs states_at priorities_at order_at next_semaphore_at process_limit refl refl (search rules) (search rules) i h))
