-- By the checks in order, then by the state of the slot. Assumes nothing.
use mathlib.Core.Path.{refl}
use Rattle.rules.specs.declared.Call.TheVariants.{Suspend}
use Rattle.scheduling.proofs.StepLaws.{answered}
use Rattle.processes.proofs.ProcessLaws.{process-null, process-outside, suspend-by, suspend-current, suspend-ready, wrong-state}
use Rattle.processes.proofs.suspend.suspend.Goals as goal
use Rattle.processes.proofs.suspend.suspend.Goals.{After-process-x}

pub returns-in_err-p : goal.returns-in_err-p
returns-in_err-p c = process-outside _ c.ranges.a _ _ _ c.from_residual.ensures.1 c.in_err-p.ensures.none (Suspend c.args.a) (λ t. refl)

pub returns-then-p-eq0 : goal.returns-then-p-eq0
returns-then-p-eq0 c = process-null c.args.a c.ranges.a _ c.in_ok-p.ensures.named (Suspend c.args.a) _ (λ t. refl) c.if-p-eq0.true

pub returns-in-Free : goal.returns-in-Free
returns-in-Free c = wrong-state c.args.a c.ranges.a _ c.in_ok-p.ensures.named _ _ c.process-x.ensures _ _ (suspend-by c.args.a c.ranges.a _ c.in_ok-p.ensures.named c.if-p-eq0.false) c.in-Free.is (λ t. refl)

pub returns-in-Current : goal.returns-in-Current
returns-in-Current c =
    let value = answered _ _ c.from.type_inv c.from.ensures in
    suspend-current c.args.a c.ranges.a _ c.in_ok-p.ensures.named _ _ c.process-x.ensures c.if-p-eq0.false _ c.put_state.ensures _ value c.in-Current.is

pub returns-in-Ready : goal.returns-in-Ready
returns-in-Ready c =
    let value = answered _ _ c.from-in-Ready.type_inv c.from-in-Ready.ensures in
    suspend-ready c.args.a c.ranges.a _ c.in_ok-p.ensures.named _ _ c.process-x.ensures c.if-p-eq0.false _ c.put_state-in-Ready.ensures _ value c.in-Ready.is

pub returns-in-Suspended : goal.returns-in-Suspended
returns-in-Suspended c = wrong-state c.args.a c.ranges.a _ c.in_ok-p.ensures.named _ _ c.process-x.ensures _ _ (suspend-by c.args.a c.ranges.a _ c.in_ok-p.ensures.named c.if-p-eq0.false) c.in-Suspended.is (λ t. refl)

pub returns-in-Waiting : goal.returns-in-Waiting
returns-in-Waiting c = wrong-state c.args.a c.ranges.a _ c.in_ok-p.ensures.named _ _ c.process-x.ensures _ _ (suspend-by c.args.a c.ranges.a _ c.in_ok-p.ensures.named c.if-p-eq0.false) c.in-Waiting.is (λ t. refl)
