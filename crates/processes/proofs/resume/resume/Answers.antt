-- By the checks in order, then by the state of the slot. Assumes nothing.
use mathlib.Core.Path.{refl}
use Rattle.rules.specs.declared.Call.TheVariants.{Resume}
use Rattle.scheduling.proofs.StepLaws.{answered}
use Rattle.processes.proofs.ProcessLaws.{process-outside, resume-by, resume-done, wrong-state}
use Rattle.processes.proofs.resume.resume.Goals as goal
use Rattle.processes.proofs.resume.resume.Goals.{After-process-x}

pub returns-in_err-p : goal.returns-in_err-p
returns-in_err-p c = process-outside _ c.ranges.a _ _ _ c.from_residual.ensures.1 c.in_err-p.ensures.none (Resume c.args.a) (λ t. refl)

pub returns-in-Free : goal.returns-in-Free
returns-in-Free c = wrong-state c.args.a c.ranges.a _ c.in_ok-p.ensures.named _ _ c.process-x.ensures _ _ (resume-by c.args.a c.ranges.a _ c.in_ok-p.ensures.named) c.in-Free.is (λ t. refl)

pub returns-in-Current : goal.returns-in-Current
returns-in-Current c = wrong-state c.args.a c.ranges.a _ c.in_ok-p.ensures.named _ _ c.process-x.ensures _ _ (resume-by c.args.a c.ranges.a _ c.in_ok-p.ensures.named) c.in-Current.is (λ t. refl)

pub returns-in-Ready : goal.returns-in-Ready
returns-in-Ready c = wrong-state c.args.a c.ranges.a _ c.in_ok-p.ensures.named _ _ c.process-x.ensures _ _ (resume-by c.args.a c.ranges.a _ c.in_ok-p.ensures.named) c.in-Ready.is (λ t. refl)

pub returns-in-Suspended : goal.returns-in-Suspended
returns-in-Suspended c =
    let value = answered _ _ c.from.type_inv c.from.ensures in
    resume-done c.args.a c.ranges.a _ c.in_ok-p.ensures.named _ _ c.process-x.ensures _ _ value c.in-Suspended.is c.make_ready.ensures

pub returns-in-Waiting : goal.returns-in-Waiting
returns-in-Waiting c = wrong-state c.args.a c.ranges.a _ c.in_ok-p.ensures.named _ _ c.process-x.ensures _ _ (resume-by c.args.a c.ranges.a _ c.in_ok-p.ensures.named) c.in-Waiting.is (λ t. refl)
