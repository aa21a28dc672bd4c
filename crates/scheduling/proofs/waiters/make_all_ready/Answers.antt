use Rattle.scheduling.proofs.WaiterLaws.{free-end, free-over, free-start, free_none, free_one}
use borrow.Author.Rules.{rules}
use Rattle.scheduling.proofs.waiters.make_all_ready.Goals as goal
use Rattle.scheduling.proofs.waiters.make_all_ready.Goals.{in-Some+then-q, in_default, in_default-via-in-None-1, in_default-via-in-Some+else-q}

pub loop-q-init : goal.loop-q-init
loop-q-init c = free-start _ _

pub loop-q-preserved : goal.loop-q-preserved
loop-q-preserved c = elim c.match-q.branch [
  | in-Some+then-q w ↦ rw w.bytes-is (free_one _ _ _ _ c.loop-q.invariant (search rules) _ (search rules) w.if-q.true _ w.make_ready.ensures)
  | in_default w ↦ rw w.bytes-is (elim w.in_default.branch [
    | in_default-via-in-None-1 w' ↦ free_none _ _ _ _ c.loop-q.invariant (search rules) (search rules)
    | in_default-via-in-Some+else-q w' ↦ free-over _ _ _ _ c.loop-q.invariant (search rules) _ (search rules) w'.if-q.false
  ])
]

pub returns : goal.returns
returns c = free-end _ _ _ _ c.loop-q.invariant (search rules)
