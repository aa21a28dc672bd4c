use Rattle.layout.proofs.Writers.{place-turns}
use Rattle.layout.proofs.fields.put_place.Goals as goal

pub returns : goal.returns
returns c = λ h. place-turns _ _ _ c.requires h
