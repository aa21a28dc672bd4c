-- The sum so far is that of the slots below i. Assumes nothing.
use Prim.Native.Nat.{◌+◌}
use native.Mathlib.Omega.{arith}
use mathlib.Core.Path.{◌∙◌, sym}
use Rattle.layout.specs.Offsets.{priorities_at, states_at}
use Rattle.tables.specs.Limits.{process_limit}
use Rattle.lists.proofs.Folds.{part-at}
use Rattle.lists.proofs.Rows.{total-none}
use Rattle.soundness.proofs.StateBytes.{current-more, current-same, currents-small}
use Rattle.soundness.proofs.running.weight.Goals as goal
use Rattle.soundness.proofs.running.weight.Goals.{then-state-eq-CURRENT, else-state-eq-CURRENT}

pub loop-i-init : goal.loop-i-init
loop-i-init c = sym (total-none _)

pub overflow_add-sum-then-state-eq-CURRENT : goal.overflow_add-sum-then-state-eq-CURRENT
overflow_add-sum-then-state-eq-CURRENT c =
    let bs = c.args.bytes.now in
    let loop = c.loop-i in
    let l = currents-small bs (λ p. process_limit + p) loop.i (process_limit + process_limit) (λ p h. omega arith) in
    omega (arith, loop.invariant)

pub loop-i-preserved : goal.loop-i-preserved
loop-i-preserved c =
    let bs = c.args.bytes.now in
    let loop = c.loop-i in
    let i = loop.i in
    let here = part-at bs states_at priorities_at i (omega arith) in
    let more = current-more bs (λ p. process_limit + p) i _ (omega arith) loop.invariant in
    let same = current-same bs (λ p. process_limit + p) i _ (omega arith) loop.invariant in
    elim c.if-state-eq-CURRENT.branch [
      | then-state-eq-CURRENT w ↦ w.sum-is ∙ more (sym here ∙ w.if-state-eq-CURRENT.true)
      | else-state-eq-CURRENT w ↦ w.sum-is ∙ same (λ e. w.if-state-eq-CURRENT.false (here ∙ e))
    ]
