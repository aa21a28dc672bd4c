use Rattle.std.proofs.Common.{rules, tests, ltb}
use Rattle.layout.specs.Bytes.{flag_plain}
use Rattle.layout.specs.Offsets.{counts_at, used_at}
use Rattle.tables.specs.Limits.{semaphore_limit}
use Rattle.std.proofs.lemmas.Iterator.{YieldsList-from_slice}
use native.Mathlib.Omega.{arith}
use mathlib.Core.Path.{ap}
use Rattle.lists.proofs.Folds.{folded-all, part-at, part-long}
use Rattle.soundness.proofs.form.flags_plain.Goals as goal

pub returns : goal.returns
returns c =
    let bs = c.args.bytes.now in
    folded-all c.fold.ensures.ran (YieldsList-from_slice _ c.iter.ensures.rest) (λ b. ltb b 2) (λ a x b q k. search (rules, tests)) semaphore_limit (part-long bs used_at counts_at (search rules)) 0 (flag_plain bs)
    (λ i h. ap (λ b. ltb b 2) (part-at bs used_at counts_at i (omega arith)))
