-- The live processes as the code counts them and looks for them, one after the other. Assumes nothing.
use Prim.Native.Nat.{◌+◌, ◌-◌, ◌<◌, ◌≤◌, suc, zero, ℕ}
use native.Mathlib.Omega.{arith}
use mathlib.Core.Bool.{Bool, not}
use mathlib.Core.List.{List, [], ◌∷◌}
use mathlib.Core.Path.{◌∙◌, ◌≡◌, ap, refl, sym}
use lib.Dec.{eqb}
use lib.ListN.{get_or-eq_default, drop, get_or, length}
use lib.Seq.{drop-cons}
use Rattle.layout.specs.Offsets.{priorities_at, states_at}
use Rattle.layout.specs.Stands.{Tells}
use Rattle.std.specs.List.{find, range_with_len, slice_range}
use Rattle.std.specs.Option.{option_map, unwrap_or}
use Rattle.std.specs.Prelude.{IfSome, None, Option, Some}
use Rattle.lists.proofs.Bools.{split}
use Rattle.lists.proofs.Folds.{part-at, part-long}
use mir.Val.{bool_byte}
use Rattle.lists.proofs.Walks.{filter-done, filter-in, filter-over}
use Rattle.lists.proofs.RoundLaws.{filter-at}
use Rattle.lists.specs.Lists.{filter, first, first_or}
use Rattle.lists.specs.Numbers.{count_up, listed}
use Rattle.order.specs.Row.{head}
use Rattle.order.proofs.Found.{found-first, first-below}
use Rattle.order.proofs.SearchLaws.{counted, up-below}
use Rattle.tables.specs.Limits.{process_limit}
use Rattle.tables.specs.Readers.{is_live, live, state_of}
use Rattle.tables.specs.declared.Tables.{Tables}
use Rattle.layout.proofs.Readers.{free-byte, state-stands}
use Rattle.lists.proofs.Bools.{below?}
use Rattle.lists.proofs.Searches.{passing-below, past_first}
use Rattle.status.specs.Search.{live_from}

-- the state byte of a slot that isn't free
abbrev pub taken : ℕ → Bool
taken b = not (eqb b 0)

live-byte : (bs : List ℕ) (p : ℕ) → p < process_limit → Tells (λ t. is_live t p) bs (taken (get_or bs (states_at + p) 0))
unfolding Tells
live-byte bs p h t st = ap not (ap (λ (b : ℕ). eqb b 0) (state-stands t bs st p h) ∙ free-byte (state_of t p))

from_all : (t : Tables) → live_from t 0 ≡ live t
unfolding live
from_all t = refl

-- Counting them

-- so many of the entries before i are taken, and those from there on are the others
abbrev pub CountsTaken : List ℕ → ℕ → ℕ → Type 0
CountsTaken xs i n = (n ≤ i) × (n + length (filter taken (drop i xs)) ≡ length (filter taken xs))

pub counts-on : (xs : List ℕ) (i n : ℕ) → CountsTaken xs i n → i < length xs → CountsTaken xs (i + 1) (n + bool_byte (taken (get_or xs i 0)))
counts-on xs i n c h =
    split (taken (get_or xs i 0))
    (λ e. let more = ap length (filter-in taken xs i h e) in rw e (omega (arith, c.0), omega (arith, c.1, more)))
    (λ e. let same = ap length (filter-over taken xs i h e) in rw e (omega (arith, c.0), omega (arith, c.1, same)))

-- entries that pass, by their numbers
by-number : (f g : ℕ → Bool) (xs : List ℕ) (k : ℕ) → ((i : ℕ) → i < length xs → f (get_or xs i 0) ≡ g (k + i)) → length (filter f xs) ≡ length (filter g (count_up k (length xs)))
unfolding filter listed
by-number f g [] k h = refl
by-number f g (x ∷ xs) k h =
    let on : length (filter f xs) ≡ length (filter g (count_up (suc k) (length xs))) = by-number f g xs (suc k) (λ i l. h (suc i) (omega arith) ∙ ap g (omega arith)) in
    let here : f x ≡ g k = h 0 (omega arith) ∙ ap g (omega arith) in
    split (g k) (λ e. rw (here, e) (ap suc on)) (λ e. rw (here, e) on)

module _ (bs : List ℕ) where
  -- the states
  abbrev states : List ℕ
  states = slice_range bs states_at priorities_at

  pub counts : (i n : ℕ) → CountsTaken states i n → length states ≤ i → Tells (λ t. length (live t)) bs n
  unfolding Tells live
  counts i n c end t st =
      let long : length states ≡ process_limit = part-long bs states_at priorities_at (omega (arith, st.long)) in
      let none : length (filter taken (drop i states)) ≡ 0 = ap length (filter-done taken states i end) in
      omega (arith, c.1, none)
      ∙ by-number taken (is_live t) states 0 (λ i h.
      let l : i < process_limit = omega (arith, h, long) in
      ap taken (part-at bs states_at priorities_at i l) ∙ live-byte bs i l t st ∙ ap (is_live t) (omega arith))
      ∙ ap (λ (k : ℕ). length (filter (is_live t) (count_up 0 k))) long

  -- Finding the first from a number on

  abbrev standing : ℕ → Bool
  standing q = taken (get_or bs (states_at + q) 0)

  module _ (p : ℕ) (r : Option ℕ) (e : option_map (λ x. x) r ≡ find standing (range_with_len p (process_limit - p))) where
    abbrev numbers : List ℕ
    numbers = count_up p (process_limit - p)

    found : r ≡ head (filter standing numbers)
    found = found-first standing (range_with_len p (process_limit - p)) r e ∙ ap (λ (xs : List ℕ). head (filter standing xs)) (counted p (process_limit - p))

    pub finds-below : IfSome r (λ q. q < process_limit)
    finds-below = by r found
      where
        by : (o : Option ℕ) → o ≡ head (filter standing numbers) → IfSome o (λ q. q < process_limit)
        by None k = tt
        by (Some q) k = first-below standing process_limit q numbers (up-below p process_limit) (sym k)

    pub finds : Tells (λ t. head (live_from t p)) bs r
    unfolding Tells
    finds t st = found ∙ ap head (filter-at standing (is_live t) numbers (λ i h. live-byte bs (get_or numbers i 0) (up-below p process_limit i h) t st))

-- or process 0 where there is none
pub below-or-0 : (r : Option ℕ) → IfSome r (λ q. q < process_limit) → unwrap_or r 0 < process_limit
below-or-0 None h = omega arith
below-or-0 (Some q) h = h

pub first_found : (xs : List ℕ) → unwrap_or (head xs) 0 ≡ first xs
unfolding first_or
first_found [] = refl
first_found (x ∷ xs) = refl

-- One after the other

module _ (t : Tables) where
  -- where the search for the live process with i before it begins
  abbrev pub next_of : ℕ → ℕ
  next_of zero = 0
  next_of (suc i) = get_or (live t) i 0 + 1

  next-live : (i : ℕ) → i ≤ length (live t) → live_from t (next_of i) ≡ drop i (live t)
  next-live zero h = from_all t
  next-live (suc i) h = past_first (is_live t) process_limit (next_of i) (get_or (live t) i 0) (drop (suc i) (live t)) (next-live i (omega arith) ∙ drop-cons (live t) i 0 h)

  -- it finds that one
  pub next-first : (i : ℕ) → i < length (live t) → first (live_from t (next_of i)) ≡ get_or (live t) i 0
  unfolding first_or
  next-first i h = ap first (next-live i (omega arith) ∙ drop-cons (live t) i 0 h)

  live_inside : (i : ℕ) → i < length (live t) → get_or (live t) i 0 < process_limit
  unfolding live
  live_inside i h = passing-below (is_live t) process_limit 0 i h

  -- it begins below 256, so that it is passed in one byte
  pub next_small : (i : ℕ) → next_of i < 256
  next_small zero = omega arith
  next_small (suc i) = below? i (length (live t)) (λ h. omega (arith, live_inside i h)) (λ h. rw (get_or-eq_default (live t) 0 {n = i} h) (omega arith))
