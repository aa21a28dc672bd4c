-- The branches are those of the rule: nobody ready, nobody current, the current one higher, or both change places. Assumes nothing.
use borrow.Author.Rules.{rules}
use borrow.Author.Tests.{le-ltb, lt-ltb}
use Rattle.scheduling.proofs.ScheduleLaws.{resched-nobody, resched-start, resched-stay, resched-switch}
use Rattle.scheduling.proofs.schedule.reschedule.Goals as goal

pub returns-in_default : goal.returns-in_default
returns-in_default c = resched-nobody _ _ _ c.find.ensures c.in_default.is

pub returns-then-ne : goal.returns-then-ne
returns-then-ne c = resched-start _ _ _ c.find.ensures _ c.in-Some.is _ c.process-x.ensures _ (search rules) c.put_state.ensures

pub returns-then-y-x : goal.returns-then-y-x
returns-then-y-x c = resched-stay _ _ _ c.find.ensures _ c.in-Some.is _ c.process-x.ensures (search rules) _ c.process-y.ensures (lt-ltb _ _ c.if-y-x.true)

pub returns : goal.returns
returns c =
    resched-switch _ _ _ c.find.ensures _ c.in-Some.is _ c.process-x.ensures (search rules) _ c.process-y.ensures _ _ (le-ltb _ _ c.if-y-x.false) c.make_ready.ensures c.put_state-2.ensures
