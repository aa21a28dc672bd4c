-- The input in chunks: what is held from one chunk to the next, and what is written.
use Rattle.std.specs.Prelude.{if◌then◌else◌, ℕ, ◌+◌, ◌/◌, ◌≤◌, ◌≡◌, List, [], ◌∷◌, ◌++◌, eqb, length, take}
use Rattle.lists.specs.Lists.{is_empty}
use Rattle.lines.specs.Line.{line_of, line_length}
use Rattle.lines.specs.Answers.{answer_length, newline, answer_to, tables_after, text_of, over}
use Rattle.feed.specs.declared.part.Part.{Part}
use Rattle.feed.specs.declared.feed.Fed.{Fed}

pub record Held : Type 0 where
  pub tables : List ℕ
  -- the first characters of the line that is not ended yet
  pub line : List ℕ

abbrev pub held_in : Part → List ℕ
held_in part = take part.count part.bytes

abbrev pub holding : List ℕ → Part → Held
holding bytes part = record { tables = bytes; line = held_in part }

-- one character more than a right line has is enough to know a wrong one
unfoldable pub kept : List ℕ → ℕ → List ℕ
kept line c = take (line_length + 1) (line ++ c ∷ [])

-- one character: what is held after it, and what is written at it
unfoldable pub held_next : Held → ℕ → Held
held_next h c =
    if eqb c newline then record { tables = tables_after h.tables (line_of h.line); line = [] }
    else record { tables = h.tables; line = kept h.line c }

unfoldable pub written_next : Held → ℕ → List ℕ
written_next h c = if eqb c newline then text_of (answer_to h.tables (line_of h.line)) else []

-- some characters
unfoldable pub held_after : Held → List ℕ → Held
held_after h [] = h
held_after h (c ∷ cs) = held_after (held_next h c) cs

unfoldable pub written_over : Held → List ℕ → List ℕ
written_over h [] = []
written_over h (c ∷ cs) = written_next h c ++ written_over (held_next h c) cs

-- the end of the input: a line that was begun ends as at a newline
unfoldable pub ending : List ℕ → List ℕ
ending line = if is_empty line then [] else newline ∷ []

-- what is taken of a chunk: each character may need the room of an answer
unfoldable pub taken : List ℕ → List ℕ → List ℕ
taken cs out = take (length out / answer_length) cs

-- cs served: what is held then, and what was written over the front of a buffer
pub record Serves (h : Held) (cs tables : List ℕ) (fed : Fed) (before after : List ℕ) : Type 0 where
  pub held-is : holding tables fed.part ≡ held_after h cs
  pub used-is : fed.used ≡ length cs
  pub written_is : fed.written ≡ length (written_over h cs)
  pub out-is : after ≡ over (written_over h cs) before

-- the same of all that is given, by the line that is left and how much was written
abbrev pub ServesAll : Held → List ℕ → List ℕ → Part → ℕ → List ℕ → List ℕ → Type 0
ServesAll h cs tables part written before after = Serves h cs tables (record { part = part; used = length cs; written = written }) before after

-- n counts bytes at the start of xs: the two facts that a part `&xs[..n]` asks for
abbrev pub Counts : ℕ → List ℕ → Type 0
Counts n xs = (n ≤ length xs) × (n ≡ length (take n xs))
