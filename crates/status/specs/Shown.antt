-- The page read back: who is shown where.
use Rattle.std.specs.Prelude.{if◌then◌else◌, ℕ, zero, suc, Bool, ◌&&◌, List, [], ◌∷◌, ◌++◌, eqb}
use Rattle.tables.specs.declared.State.TheVariants.{Waiting}
use Rattle.tables.specs.Limits.{process_limit}
use Rattle.status.specs.declared.Row.{Row}
use Rattle.status.specs.Rows.{state_number}

-- a row that shows a waiter at place k of the queue of s
abbrev pub shows : ℕ → ℕ → Row → Bool
shows s k r = eqb r.state (state_number (Waiting s)) && (eqb r.awaited s && eqb r.place k)

-- the process numbers of the rows that do
unfoldable pub shown_at : List Row → ℕ → ℕ → List ℕ
shown_at [] s k = []
shown_at (r ∷ rs) s k =
    let rest : List ℕ = shown_at rs s k in
    if shows s k r then r.number ∷ rest else rest

-- the n places of the queue of s from place k on, one after the other
unfoldable pub shown_from : List Row → ℕ → ℕ → ℕ → List ℕ
shown_from rs s k zero = []
shown_from rs s k (suc n) = shown_at rs s k ++ shown_from rs s (suc k) n

-- the queue of s as the rows show it: by place, from place 1 on
unfoldable pub queue_shown : List Row → ℕ → List ℕ
queue_shown rs s = shown_from rs s 1 process_limit
