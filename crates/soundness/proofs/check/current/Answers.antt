use Rattle.soundness.proofs.GoodBytes.{current-told}
use Rattle.soundness.proofs.check.current.Goals as goal

pub returns : goal.returns
returns c = rw (c.unwrap_or.ensures, c.runner.ensures) (current-told _)
