-- By the checks in order, then by the old count. Assumes nothing.
use mathlib.Core.Bool.{false}
use mathlib.Core.Path.{◌≡◌, refl}
use lib.IntN.{suc_ℤ}
use lib.Signed.{le_z}
use mir.Syntax.{w32}
use mir.Val.{SFits}
use mir.ValLaws.{to_z-of_z}
use Rattle.std.specs.Prelude.{Ok}
use Rattle.arguments.proofs.CountLaws.{below-tested, full, not_full, one_more}
use Rattle.layout.specs.Stands.{Turns}
use Rattle.rules.specs.Calls.{largest}
use Rattle.rules.specs.declared.Call.TheVariants.{Signal}
use Rattle.semaphores.proofs.TargetLaws.{chosen, semaphore-refused}
use Rattle.semaphores.proofs.WaitSignalLaws.{signal-5, signal-free, signal-go, signal-nobody}
use Rattle.semaphores.specs.Target.{Chosen}
use Rattle.tables.specs.Setters.{with_count}
use Rattle.semaphores.proofs.signal.signal.Goals as goal
use Rattle.semaphores.proofs.signal.signal.Goals.{After-put_count}

-- the checks have passed, and the count is one up
counted : (c : After-put_count) → SFits w32 c.count-n.result × Chosen c.args.a c.args.bytes.now (Ok c.in_ok-s.s) × (le_z largest c.count-n.result ≡ false) × Turns (λ t. with_count t c.in_ok-s.s.number (suc_ℤ c.count-n.result)) c.args.bytes.now c.put_count.new.bytes
counted c =
    let n = c.count-n.result in
    let f : SFits w32 n = record { sfits = c.count-n.type_inv } in
    let free = not_full n f c.if-n-eq2147483647.false in
    (f, chosen c.args.a c.ranges.a _ (Ok c.in_ok-s.s) c.in_ok-s.ensures, free, rw (to_z-of_z w32 n f, one_more n f free) at c.put_count.ensures)

pub returns-in_err-s : goal.returns-in_err-s
returns-in_err-s c = semaphore-refused _ c.ranges.a _ _ _ c.from_residual.ensures.1 c.in_err-s.ensures (Signal c.args.a) (λ t. refl)

pub returns-then-n-eq2147483647 : goal.returns-then-n-eq2147483647
returns-then-n-eq2147483647 c =
    let w = chosen c.args.a c.ranges.a _ (Ok c.in_ok-s.s) c.in_ok-s.ensures in
    signal-5 c.args.a c.in_ok-s.s _ w _ c.count-n.ensures (full c.count-n.result (record { sfits = c.count-n.type_inv }) c.if-n-eq2147483647.true)

pub returns-in-Some : goal.returns-in-Some
returns-in-Some c =
    let d = counted (goal.at.returns-in-Some c).After-put_count in
    signal-free c.args.a c.in_ok-s.s _ d.1 _ c.count-n.ensures d.2 _ d.3 _ _ _ (below-tested c.count-n.result d.0 _ c.if-n-lt0.true) c.find.ensures c.in-Some.is c.make_ready.ensures

pub returns-in_default : goal.returns-in_default
returns-in_default c =
    let d = counted (goal.at.returns-in_default c).After-put_count in
    signal-nobody c.args.a c.in_ok-s.s _ d.1 _ c.count-n.ensures d.2 _ d.3 _ _ _ (below-tested c.count-n.result d.0 _ c.if-n-lt0.true) c.find.ensures c.in_default.is

pub returns : goal.returns
returns c =
    let d = counted (goal.at.returns c).After-put_count in
    signal-go c.args.a c.in_ok-s.s _ d.1 _ c.count-n.ensures d.2 _ d.3 (below-tested c.count-n.result d.0 _ c.if-n-lt0.false)
