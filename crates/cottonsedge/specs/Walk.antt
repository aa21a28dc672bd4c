-- How many rows of the status page are written.
use Rattle.std.specs.Prelude.{ℕ, nat_abs}
use Rattle.rules.specs.declared.Answer.{Answer}
use Rattle.rules.specs.declared.Answer.TheVariants.{Done, Refused}

-- none at a refusal
abbrev pub written : Answer → ℕ
written (Done v) = nat_abs v
written (Refused n) = 0
