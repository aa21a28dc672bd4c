use Rattle.soundness.proofs.GoodBytes.{some_is}
use Rattle.soundness.proofs.check.is_sound.Goals as goal

pub returns : goal.returns
returns c = rw (c.is_some.ensures, c.runner.ensures) (some_is _)
