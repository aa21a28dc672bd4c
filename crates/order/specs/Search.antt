-- The search over entries whose byte is 0 where they are free.
use Rattle.std.specs.Prelude.{ℕ, Option, List, eqb, get_or}
use Rattle.lists.specs.Lists.{filter}
use Rattle.order.specs.Row.{head}

-- the first of these numbers whose byte is 0
abbrev pub first_free : List ℕ → List ℕ → Option ℕ
first_free bs xs = head (filter (λ i. eqb (get_or bs i 0) 0) xs)
