use Rattle.std.proofs.Common.{rules}
use Rattle.lists.proofs.Made.{made-each}
use Rattle.soundness.specs.Keys.{key_of}
use mathlib.Core.Path.{◌≡◌}
use Rattle.soundness.proofs.ready.keys.Goals as goal

pub returns : goal.returns
returns c = made-each (λ p x. x ≡ key_of c.args.bytes.now p) 0 (λ i x t h. search rules) c.from_fn.ensures.items
