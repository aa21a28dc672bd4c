-- Who stands at a place of the row, as a loop over the row's bytes reads it. Assumes nothing.
use Prim.Native.Nat.{◌+◌, ◌<◌, ℕ}
use mathlib.Core.List.{List}
use mathlib.Core.Path.{◌≡◌, sym}
use lib.ListN.{get_or}
use Rattle.std.specs.Prelude.{slice_range}
use Rattle.layout.specs.Offsets.{next_semaphore_at, order_at}
use Rattle.lists.proofs.Folds.{part-at}
use Rattle.tables.specs.Limits.{process_limit}

module _ (bs : List ℕ) (i : ℕ) where
  abbrev pub standing : ℕ
  standing = get_or (slice_range bs order_at next_semaphore_at) i 0

  pub standing-byte : i < process_limit → get_or bs (order_at + i) 0 ≡ standing
  standing-byte h = sym (part-at bs order_at next_semaphore_at i h)

  pub standing-below : ((j : ℕ) → j < process_limit → get_or bs (order_at + j) 0 < process_limit) → i < process_limit → standing < process_limit
  standing-below named h = rw (standing-byte h) at (named i h)
