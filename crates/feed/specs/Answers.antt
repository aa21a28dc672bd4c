-- The lines of an input, and the answers to them, each on the tables that the one before it left.
use Rattle.std.specs.Prelude.{if◌then◌else◌, ℕ, List, [], ◌∷◌, ◌++◌, eqb}
use Rattle.lines.specs.Line.{line_of}
use Rattle.lines.specs.Answers.{newline, answer_to, tables_after, text_of}

-- a character before the first of some lines
abbrev pub before : ℕ → List (List ℕ) → List (List ℕ)
before c [] = (c ∷ []) ∷ []
before c (line ∷ lines) = (c ∷ line) ∷ lines

-- each line ends at a newline; a last one with at least one character and no newline counts
unfoldable pub lines_of : List ℕ → List (List ℕ)
lines_of [] = []
lines_of (c ∷ cs) =
    let rest : List (List ℕ) = lines_of cs in
    if eqb c newline then [] ∷ rest else before c rest

unfoldable pub answers_to : List ℕ → List (List ℕ) → List ℕ
answers_to tables [] = []
answers_to tables (line ∷ lines) = text_of (answer_to tables (line_of line)) ++ answers_to (tables_after tables (line_of line)) lines

-- what the bench writes for a whole input, from tables at its start
unfoldable pub answers : List ℕ → List ℕ → List ℕ
answers tables input = answers_to tables (lines_of input)
