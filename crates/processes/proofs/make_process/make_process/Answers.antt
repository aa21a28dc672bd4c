-- By the two checks in order. Assumes nothing.
use Rattle.processes.proofs.MakeLaws.{make-11, make-8, make-process-done}
use Rattle.scheduling.proofs.StepLaws.{answered, lacks}
use borrow.Author.Rules.{rules}
use Rattle.processes.proofs.make_process.make_process.Goals as goal

pub returns-in_err-priority : goal.returns-in_err-priority
returns-in_err-priority c = make-11 c.args.a c.ranges.a _ _ _ c.from_residual.ensures.1 c.in_err-priority.ensures.none

pub returns-in_err-i : goal.returns-in_err-i
returns-in_err-i c =
    let none = c.in_err-i.ensures.ok_part in
    lacks _ _ _ _ _ _ _ none c.in_err-i.ensures.value c.from_residual-in_err-i.ensures.1
    (make-8 c.args.a c.ranges.a _ c.in_ok-priority.ensures.given _ _ _ c.next_process-from.ensures (rw c.from.ensures at c.free_round.ensures.1) none)

pub returns : goal.returns
returns c =
    let move = rw c.one_past.ensures at c.put_next_process.ensures in
    let value = answered _ _ c.from-2.type_inv c.from-2.ensures in
    make-process-done c.args.a c.ranges.a _ c.in_ok-priority.ensures.given _ _ _ c.next_process-from.ensures (rw c.from.ensures at c.free_round.ensures.1) _ c.in_ok-i.ensures.ok_part _ _ c.put_process.ensures move (search rules) _ value
