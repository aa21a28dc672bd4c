-- The row as the code walks it.
use Rattle.std.specs.Prelude.{ℕ, Bool, ◌&&◌, Option, None, Some, List, [], ◌∷◌, ◌++◌, ◌+◌, ◌≡◌, drop, eqb, get_or, ltb, take}
use Rattle.layout.specs.Offsets.{states_at}
use Rattle.layout.specs.Bytes.{state_byte}
use Rattle.layout.specs.Stands.{Stands}
use Rattle.lists.specs.Lists.{place, place_in, put_before, take_out}
use Rattle.tables.specs.Readers.{line, process}
use Rattle.tables.specs.Setters.{with_order}
use Rattle.tables.specs.States.{is_ready}
use Rattle.tables.specs.declared.Process.{Process}
use Rattle.tables.specs.declared.State.{State}
use Rattle.tables.specs.declared.Tables.{Tables}

-- a state by its byte
abbrev pub by_byte : ℕ → State → Bool
by_byte b st = eqb (state_byte st) b

-- by the bytes: the state of q is byte b
abbrev pub has_state : List ℕ → ℕ → ℕ → Bool
has_state bs b q = eqb (get_or bs (states_at + q) 0) b

-- the first entry of a list, if it has one
abbrev pub head : List ℕ → Option ℕ
head [] = None
head (x ∷ xs) = Some x

-- the first in the row whose state is byte b
abbrev pub found : ℕ → Tables → Option ℕ
found b t = head (line t (by_byte b))

-- the place of p among those whose state is byte b, counted from 1
abbrev pub place_among : ℕ → ℕ → Tables → ℕ
place_among b p t = place_in p (line t (by_byte b))

-- a ready process below the level
abbrev pub low : ℕ → Process → Bool
low level x = is_ready x.state && ltb x.priority level

abbrev pub below : ℕ → Tables → ℕ → Bool
below level t x = low level (process t x)

abbrev pub placed : ℕ → ℕ → Tables → Tables
placed p level t = with_order t (place (below level t) p t.order)

-- p taken out and put last
abbrev pub put_last : ℕ → List ℕ → List ℕ
put_last p xs = take_out p xs ++ p ∷ []

-- p put in at place i, and taken out behind it
abbrev pub risen : ℕ → ℕ → List ℕ → List ℕ
risen p i xs = take i xs ++ p ∷ take_out p (drop i xs)

-- what stands at place i taken out, and p put in behind
abbrev pub sunk : (ℕ → Bool) → ℕ → ℕ → List ℕ → List ℕ
sunk test p i xs = take i xs ++ put_before test p (drop (i + 1) xs)

-- the move of p begins at place i: p stands there and sinks, or another does and p rises to it
unfoldable pub Spotted : ℕ → ℕ → ℕ → List ℕ → Type 0
Spotted p level i bs =
    (t : Tables) → Stands t bs →
    (get_or t.order i 0 ≡ p → sunk (below level t) p i t.order ≡ place (below level t) p t.order)
    × ((get_or t.order i 0 ≡ p → ⊥) → risen p i t.order ≡ place (below level t) p t.order)
