use Rattle.kernel.proofs.EnterLaws.{read-called, read-refused}
use Rattle.kernel.proofs.enter.read_and_act.Goals as goal

pub returns-in_err-call : goal.returns-in_err-call
returns-in_err-call c = λ runs. read-refused _ _ _ c.ranges.a c.ranges.b _ _ c.in_err-call.ensures _ c.from_residual.ensures.1

pub returns : goal.returns
returns c = λ runs. read-called _ _ _ c.ranges.a c.ranges.b _ _ c.in_ok-call.ensures _ _ (c.act.ensures runs)
