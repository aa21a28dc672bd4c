-- By the checks in order, then by the new count. Assumes nothing.
use mathlib.Core.Path.{◌≡◌, refl}
use lib.IntN.{◌-ℤ◌, pos}
use mir.Syntax.{w32}
use mir.Val.{SFits}
use mir.ValLaws.{to_z-of_z}
use Rattle.arguments.proofs.CountLaws.{below-tested}
use Rattle.rules.specs.declared.Call.TheVariants.{Wait}
use Rattle.semaphores.proofs.TargetLaws.{chosen, semaphore-refused}
use Rattle.semaphores.proofs.WaitSignalLaws.{wait-10, wait-block, wait-go}
use Rattle.std.specs.Int.{saturate_signed}
use Rattle.std.specs.Prelude.{Ok}
use Rattle.layout.specs.Stands.{Turns}
use Rattle.semaphores.specs.Target.{Chosen}
use Rattle.tables.specs.Setters.{with_count}
use Rattle.semaphores.proofs.wait.wait.Goals as goal
use Rattle.semaphores.proofs.wait.wait.Goals.{After-put_count}

-- the checks have passed, and the count is one down
counted : (c : After-put_count) → SFits w32 c.saturating_sub-m.result × Chosen c.args.a c.args.bytes.now (Ok c.in_ok-s.s) × (c.saturating_sub-m.result ≡ saturate_signed w32 (c.count.result -ℤ pos 1)) × Turns (λ t. with_count t c.in_ok-s.s.number c.saturating_sub-m.result) c.args.bytes.now c.put_count.new.bytes
counted c =
    let m = c.saturating_sub-m.result in
    let f : SFits w32 m = record { sfits = c.saturating_sub-m.type_inv } in
    let less = rw (to_z-of_z w32 _ (record { sfits = c.count.type_inv })) at c.saturating_sub-m.ensures in
    (f, chosen c.args.a c.ranges.a _ (Ok c.in_ok-s.s) c.in_ok-s.ensures, less, rw (to_z-of_z w32 m f) at c.put_count.ensures)

pub returns-in_err-s : goal.returns-in_err-s
returns-in_err-s c = λ runs. semaphore-refused _ c.ranges.a _ _ _ c.from_residual.ensures.1 c.in_err-s.ensures (Wait c.args.a) (λ t. refl)

pub returns-then-c-eq0 : goal.returns-then-c-eq0
returns-then-c-eq0 c = λ runs. wait-10 c.args.a c.in_ok-s.s _ (chosen c.args.a c.ranges.a _ (Ok c.in_ok-s.s) c.in_ok-s.ensures) _ runs c.if-c-eq0.true

pub returns-then-m-lt0 : goal.returns-then-m-lt0
returns-then-m-lt0 c =
    let d = counted (goal.at.returns-then-m-lt0 c).After-put_count in
    λ runs. wait-block c.args.a c.in_ok-s.s _ d.1 _ c.count.ensures _ runs c.if-c-eq0.false _ d.2 _ d.3 _ (below-tested c.saturating_sub-m.result d.0 _ c.if-m-lt0.true) c.make_wait.ensures

pub returns : goal.returns
returns c =
    let d = counted (goal.at.returns c).After-put_count in
    λ runs. wait-go c.args.a c.in_ok-s.s _ d.1 _ c.count.ensures _ runs c.if-c-eq0.false _ d.2 _ d.3 (below-tested c.saturating_sub-m.result d.0 _ c.if-m-lt0.false)
