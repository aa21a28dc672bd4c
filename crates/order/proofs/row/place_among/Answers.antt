-- From each entry of the row on the count goes to the place of p. Assumes nothing.
use mathlib.Core.Path.{◌∙◌, sym}
use Rattle.std.proofs.Common.{rules}
use Rattle.order.proofs.Found.{count-end, count-here, count-over, count_past, count-start, count-tells}
use Rattle.order.proofs.row.place_among.Goals as goal
use Rattle.order.proofs.row.place_among.Goals.{then-has_state+else-q-p, else-has_state}

pub loop-q-init : goal.loop-q-init
loop-q-init c = count-start _ _ _

pub returns-then-q-p : goal.returns-then-q-p
returns-then-q-p c =
    count-tells c.args.b c.args.bytes.now _ c.row-q-items.ensures.1 c.args.p _ (count-here _ _ _ _ _ c.loop-q.invariant c.loop-q-test.true (sym c.has_state.ensures ∙ c.if-has_state.true) c.if-q-p.true)

pub loop-q-preserved : goal.loop-q-preserved
loop-q-preserved c = elim c.if-has_state.branch [
  | then-has_state+else-q-p w ↦ rw w.n-is (count_past _ _ _ _ _ c.loop-q.invariant c.loop-q-test.true (sym c.has_state.ensures ∙ w.if-has_state.true) w.if-q-p.false)
  | else-has_state w ↦ rw w.n-is (count-over _ _ _ _ _ c.loop-q.invariant c.loop-q-test.true (sym c.has_state.ensures ∙ w.if-has_state.false))
]

pub returns : goal.returns
returns c = count-tells c.args.b c.args.bytes.now _ c.row-q-items.ensures.1 c.args.p _ (count-end _ _ _ _ _ c.loop-q.invariant (search rules))
