-- By the checks in order, then by the state of the slot. Assumes nothing.
use mathlib.Core.Path.{refl}
use Rattle.rules.specs.declared.Call.TheVariants.{Kill}
use Rattle.processes.proofs.ProcessLaws.{kill-by, kill-current, kill-still, kill-waiting, process-null, process-outside, wrong-state}
use Rattle.processes.proofs.kill.kill.Goals as goal

pub returns-in_err-p : goal.returns-in_err-p
returns-in_err-p c = process-outside _ c.ranges.a _ _ _ c.from_residual.ensures.1 c.in_err-p.ensures.none (Kill c.args.a) (λ t. refl)

pub returns-then-p-eq0 : goal.returns-then-p-eq0
returns-then-p-eq0 c = process-null c.args.a c.ranges.a _ c.in_ok-p.ensures.named (Kill c.args.a) _ (λ t. refl) c.if-p-eq0.true

pub returns-in-Free : goal.returns-in-Free
returns-in-Free c = wrong-state c.args.a c.ranges.a _ c.in_ok-p.ensures.named _ _ c.process.ensures _ _ (kill-by c.args.a c.ranges.a _ c.in_ok-p.ensures.named c.if-p-eq0.false) c.in-Free.is (λ t. refl)

pub returns-in-Current : goal.returns-in-Current
returns-in-Current c = kill-current c.args.a c.ranges.a _ c.in_ok-p.ensures.named _ _ c.process.ensures c.if-p-eq0.false _ c.free_slot.ensures c.in-Current.is

pub returns-in-Ready : goal.returns-in-Ready
returns-in-Ready c = kill-still c.args.a c.ranges.a _ c.in_ok-p.ensures.named _ _ c.process.ensures c.if-p-eq0.false _ c.free_slot-in-Ready.ensures c.in-Ready.is

pub returns-in-Waiting : goal.returns-in-Waiting
returns-in-Waiting c = kill-waiting c.args.a c.ranges.a _ c.in_ok-p.ensures.named _ _ c.process.ensures c.if-p-eq0.false _ _ _ c.in-Waiting.is c.uncount.ensures c.free_slot-in-Waiting.ensures
