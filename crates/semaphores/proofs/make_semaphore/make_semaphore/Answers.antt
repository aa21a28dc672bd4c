-- By the two checks in order. Assumes nothing.
use mir.Syntax.{w32}
use mir.ValLaws.{to_z-of_z}
use Rattle.arguments.proofs.CountLaws.{below-tested}
use Rattle.scheduling.proofs.StepLaws.{answered, lacks}
use Rattle.semaphores.proofs.MakeLaws.{make-3, make-4, make-semaphore-done}
use Rattle.semaphores.proofs.make_semaphore.make_semaphore.Goals as goal

pub returns-then-a-lt0 : goal.returns-then-a-lt0
returns-then-a-lt0 c = make-3 c.args.a _ (below-tested c.args.a c.ranges.a _ c.if-a-lt0.true)

pub returns-in_err-i : goal.returns-in_err-i
returns-in_err-i c =
    let h = below-tested c.args.a c.ranges.a _ c.if-a-lt0.false in
    let none = c.in_err-i.ensures.ok_part in
    lacks _ _ _ _ _ _ _ none c.in_err-i.ensures.value c.from_residual.ensures.1 (make-4 c.args.a h _ _ _ c.next_semaphore-from.ensures (rw c.from.ensures at c.free_round.ensures.1) none)

pub returns : goal.returns
returns c =
    let h = below-tested c.args.a c.ranges.a _ c.if-a-lt0.false in
    let put = rw (to_z-of_z w32 _ c.ranges.a) at c.put_semaphore.ensures in
    let move = rw c.one_past.ensures at c.put_next_semaphore.ensures in
    let value = answered _ _ c.from-2.type_inv c.from-2.ensures in
    make-semaphore-done c.args.a h _ _ _ c.next_semaphore-from.ensures (rw c.from.ensures at c.free_round.ensures.1) _ c.in_ok-i.ensures.ok_part _ _ put move _ value
