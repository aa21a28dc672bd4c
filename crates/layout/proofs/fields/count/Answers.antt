use mathlib.Core.Path.{◌∙◌}
use mir.Syntax.{w32}
use mir.ValLaws.{to_z-of_z}
use Rattle.layout.proofs.Readers.{count-tells}
use Rattle.layout.proofs.fields.count.Goals as goal

pub returns : goal.returns
returns c = count-tells _ _ _ c.args.s.below (to_z-of_z w32 _ (record { sfits = c.count_at.type_inv }) ∙ c.count_at.ensures)
