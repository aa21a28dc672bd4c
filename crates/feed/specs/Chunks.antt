-- A session: its input fed in chunks, one call after the other, and then finished.
use Rattle.std.specs.Prelude.{ℕ, List, [], ◌∷◌, ◌++◌, take}
use Rattle.feed.specs.declared.feed.Fed.{Fed}
use Rattle.feed.specs.Feed.{Held, holding, ending, Serves}

abbrev pub start : List ℕ → Held
start bytes = record { tables = bytes; line = [] }

-- the chunks that were taken from h on, and all that was written
pub data Session : Held → List (List ℕ) → List ℕ → Type 0 where
  -- the end of the input
  finished : {h : Held} {tables : List ℕ} {fed : Fed} {before after : List ℕ} → Serves h (ending h.line) tables fed before after → Session h [] (take fed.written after)
  -- a chunk, and what follows from what it left
  fed-first : {h : Held} {chunk tables : List ℕ} {fed : Fed} {before after : List ℕ} {chunks : List (List ℕ)} {later : List ℕ} → Serves h chunk tables fed before after → Session (holding tables fed.part) chunks later → Session h (chunk ∷ chunks) (take fed.written after ++ later)

-- the chunks as one input
unfoldable pub joined : List (List ℕ) → List ℕ
joined [] = []
joined (chunk ∷ chunks) = chunk ++ joined chunks
