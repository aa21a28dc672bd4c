use mir.Syntax.{w32}
use mir.ValLaws.{to_z-of_z}
use Rattle.scheduling.proofs.StepLaws.{leads-end}
use Rattle.kernel.proofs.EnterLaws.{by-number}
use Rattle.rules.proofs.Kept.{sound-numbered}
use Rattle.kernel.proofs.enter.call.Goals as goal

pub returns : goal.returns
returns c =
    let number = by-number _ _ c.map_err-step.ensures.cases in
    let leads = rw (to_z-of_z w32 c.args.a c.ranges.a, to_z-of_z w32 c.args.b c.ranges.b) at c.read_and_act.ensures in
    λ runs. leads-end _ _ _ _ _ _ _ (λ t S. sound-numbered S c.args.number c.args.a c.args.b) runs (leads runs) (rw number at c.finish.ensures)
