-- A run of the bench, where the bytes to come and the bytes written are known.
use Rattle.std.specs.Prelude.{ℕ, List, Option}
use Rattle.std.specs.Io.KnownBytes.{Appends, Consumes}
use Rattle.feed.specs.Answers.{answers}

-- all that was read is answered, from these tables on, and nothing else is written
abbrev pub AllAnswered : List ℕ → Option (List ℕ) → Option (List ℕ) → Option (List ℕ) → Option (List ℕ) → Type 0
AllAnswered tables input input' output output' = (read : List ℕ) × Consumes input input' read × Appends output output' (answers tables read)
