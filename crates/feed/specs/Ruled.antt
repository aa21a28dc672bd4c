-- What the bench writes by the rules alone, from tables and not from their bytes.
use Rattle.std.specs.Prelude.{ℕ, List, [], ◌∷◌, ◌++◌, Option, Some, None}
use Rattle.tables.specs.declared.Tables.{Tables}
use Rattle.tables.specs.Readers.{current_of}
use Rattle.rules.specs.declared.Outcome.{Outcome}
use Rattle.rules.specs.Answers.{refused}
use Rattle.rules.specs.Enter.{numbered}
use Rattle.cottonsedge.specs.Fields.{packed}
use Rattle.lines.specs.declared.line.Request.{Request}
use Rattle.lines.specs.Line.{line_of}
use Rattle.lines.specs.Answers.{text_of}

-- a line on sound tables
abbrev pub outcome_of : Tables → Option Request → Outcome
outcome_of t (Some r) = numbered t r.number r.a r.b
outcome_of t None = refused 12 t

-- the lines one after the other, with who is current after each
unfoldable pub ruled : Tables → List (List ℕ) → List ℕ
ruled t [] = []
ruled t (line ∷ lines) =
    let o : Outcome = outcome_of t (line_of line) in
    text_of (packed o.answer (current_of o.tables)) ++ ruled o.tables lines
