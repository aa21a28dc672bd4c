use Rattle.std.proofs.Common.{ℕ, rules}
use Rattle.lists.proofs.Made.{listed-made}
use Rattle.tables.proofs.rising.Goals as goal

pub returns : goal.returns
returns c = listed-made (λ (i : ℕ). i) 0 (λ i x t h. search rules) c.from_fn.ensures.items
