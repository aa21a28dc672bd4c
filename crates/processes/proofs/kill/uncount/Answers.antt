use mathlib.Core.Path.{sym}
use mir.Syntax.{w32}
use mir.ValLaws.{to_z-of_z}
use Rattle.processes.proofs.ProcessLaws.{raise-turns}
use Rattle.processes.proofs.kill.uncount.Goals as goal

pub returns-in-Some : goal.returns-in-Some
returns-in-Some c =
    let more = rw (to_z-of_z w32 _ (record { sfits = c.count-n.type_inv })) at c.saturating_add.ensures in
    let put = rw (to_z-of_z w32 _ (record { sfits = c.saturating_add.type_inv })) at c.put_count.ensures in
    λ h. rw (sym c.in-Some.ensures) (raise-turns _ _ _ _ _ c.count-n.ensures more put)
