-- Where the lines of an input end, computed. Assumes nothing.
use mathlib.Core.Path.{◌≡◌, refl}
use mathlib.Core.List.{[], ◌∷◌}
use Rattle.feed.specs.Answers.{lines_of}

-- no input has no line; a newline alone ends an empty one; a last line needs no newline
lines_end : (lines_of [] ≡ []) × (lines_of (10 ∷ []) ≡ [] ∷ []) × (lines_of (65 ∷ 10 ∷ 66 ∷ []) ≡ (65 ∷ []) ∷ (66 ∷ []) ∷ []) × (lines_of (65 ∷ 10 ∷ []) ≡ (65 ∷ []) ∷ [])
unfolding lines_of
lines_end = (refl, refl, refl, refl)
