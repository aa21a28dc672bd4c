-- The answer to one line, and its text.
use Rattle.std.specs.Prelude.{ℕ, ◌+◌, List, [], ◌∷◌, ◌++◌, Option, Some, None, length, drop}
use Rattle.rules.specs.declared.Answer.TheVariants.{Refused}
use Rattle.cottonsedge.specs.Fields.{packed}
use Rattle.cottonsedge.specs.Entries.{answer_of, bytes_after}
use Rattle.soundness.specs.Good.{current_byte}
use Rattle.lines.specs.declared.line.Request.{Request}
use Rattle.lines.specs.Hex.{written}

abbrev pub newline : ℕ
newline = 10

-- a wrong line: refusal 12, value -1, and the process that is current
abbrev pub answer_to : List ℕ → Option Request → ℕ
answer_to tables (Some r) = answer_of tables r.number r.a r.b
answer_to tables None = packed (Refused 12) (current_byte tables)

-- a wrong line changes no table
abbrev pub tables_after : List ℕ → Option Request → List ℕ
tables_after tables (Some r) = bytes_after tables r.number r.a r.b
tables_after tables None = tables

-- two digits for the refusal, eight for the value, two for the process
abbrev pub answer_digits : ℕ
answer_digits = 12

-- and a newline
abbrev pub answer_length : ℕ
answer_length = answer_digits + 1

unfoldable pub text_of : ℕ → List ℕ
text_of answer = written answer_digits answer ++ newline ∷ []

-- a text over the front of a buffer
unfoldable pub over : List ℕ → List ℕ → List ℕ
over text out = text ++ drop (length text) out
