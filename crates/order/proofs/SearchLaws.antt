-- The search that goes round, over entries and then over the tables that they stand for. Assumes nothing.
use Prim.Native.Nat.{◌+◌, ◌-◌, ◌<◌, ◌≤◌, suc, zero, ℕ}
use native.Mathlib.Numerals.{add-one}
use native.Mathlib.Omega.{arith}
use mathlib.Core.List.{List, [], ◌++◌, ◌∷◌}
use mathlib.Core.Path.{◌∙◌, ◌≡◌, ap, refl, subst, sym}
use mathlib.Core.Bool.{Bool, false, not, true}
use lib.ListN.{get_or, length}
use lib.Dec.{eqb}
use Rattle.std.specs.List.{find, range_with_len, slice_range}
use Rattle.std.specs.Option.{option_map}
use Rattle.std.specs.Prelude.{IfSome, MatchOption, None, Option, Some}
use Rattle.lists.specs.Lists.{filter}
use Rattle.lists.specs.Numbers.{count_up, listed, round_from}
use Rattle.layout.specs.Bytes.{used_byte}
use Rattle.layout.specs.Offsets.{counts_at, priorities_at, states_at, used_at}
use Rattle.layout.specs.Stands.{Stands, Tells}
use Rattle.layout.proofs.Readers.{free-byte, state-stands, used-stands}
use Rattle.rules.specs.Calls.{free_semaphores, free_slots}
use Rattle.tables.specs.Limits.{process_limit, semaphore_limit}
use Rattle.tables.specs.Readers.{is_used, state_of}
use Rattle.tables.specs.Sound.{Sound}
use Rattle.tables.specs.States.{is_free}
use Rattle.tables.specs.declared.Tables.{Tables}
use Rattle.lists.proofs.Folds.{part-at, part-long}
use Rattle.lists.proofs.NumberLaws.{listed-from, listed-length}
use Rattle.lists.proofs.RoundLaws.{filter-append, filter-at, round-again, round-below}
use Rattle.std.proofs.lemmas.Option.{none-some}
use Rattle.order.specs.Row.{head}
use Rattle.order.specs.Search.{first_free}
use Rattle.order.proofs.Found.{found-first, first-below, first-none}

-- Over entries

pub counted : (k n : ℕ) → range_with_len k n ≡ count_up k n
unfolding listed
counted k zero = refl
counted k (suc n) = rw (add-one, counted (suc k) n)

pub up-below : (k limit i : ℕ) → i < length (count_up k (limit - k)) → get_or (count_up k (limit - k)) i 0 < limit
up-below k limit i h =
    let long : length (count_up k (limit - k)) ≡ limit - k = listed-length (λ i. i) k (limit - k) in
    rw (listed-from (λ i. i) k (limit - k) i 0 (omega (arith, h, long))) (omega (arith, h, long))

head-append : (xs ys : List ℕ) (i : ℕ) → head xs ≡ Some i → head (xs ++ ys) ≡ Some i
head-append [] ys i e = absurd (none-some i e)
head-append (x ∷ xs) ys i e = e

module _ (bs : List ℕ) (k : ℕ) where
  abbrev free : ℕ → Bool
  free i = eqb (get_or bs i 0) 0

  abbrev later : List ℕ
  later = count_up k (length bs - k)

  -- the search from k on
  pub searched : (r : Option ℕ) → option_map (λ x. x) r ≡ find free (range_with_len k (length bs - k)) → IfSome r (λ i. i < length bs) × (r ≡ first_free bs later)
  searched r e = by r (found-first free (range_with_len k (length bs - k)) r e ∙ ap (first_free bs) (counted k (length bs - k)))
    where
      by : (r : Option ℕ) → r ≡ first_free bs later → IfSome r (λ i. i < length bs) × (r ≡ first_free bs later)
      by None e = (tt, e)
      by (Some i) e = (first-below free (length bs) i later (up-below k (length bs)) (sym e), e)

  -- it, and where it finds none the search from 0 on
  pub round : (a r : Option ℕ) → IfSome a (λ i. i < length bs) × (a ≡ first_free bs later) → MatchOption a (IfSome r (λ i. i < length bs) × (r ≡ first_free bs (count_up 0 (length bs - 0)))) (λ i. r ≡ Some i)
      → IfSome r (λ i. i < length bs) × (k < length bs → r ≡ first_free bs (round_from (length bs) k))
  unfolding round_from
  round None r (b, e) (c, d) = (
    c,
    λ h. let whole : length bs - 0 ≡ length bs = omega arith in
        d ∙ ap (λ (n : ℕ). first_free bs (count_up 0 n)) whole ∙ sym (ap head (round-again free (length bs) k (omega arith) (first-none (filter free later) (sym e)))),
  )
  round (Some i) r (b, e) d =
      (subst (λ (z : Option ℕ). IfSome z (λ j. j < length bs)) (sym d) b, λ h. d ∙ sym (ap head (filter-append free later (count_up 0 k)) ∙ head-append (filter free later) (filter free (count_up 0 k)) i (sym e)))

-- Over the tables

unused-byte : (u : Bool) → eqb (used_byte u) 0 ≡ not u
unused-byte true = refl
unused-byte false = refl

-- entries that are 0 where the test holds
module _ (bs : List ℕ) (at to limit : ℕ) (many : to - at ≡ limit) (within : to ≤ length bs) (test : ℕ → Bool) (same : (i : ℕ) → i < limit → eqb (get_or bs (at + i) 0) 0 ≡ test i) where
  first-free : (k : ℕ) (r : Option ℕ) → k < limit → (k < length (slice_range bs at to) → r ≡ first_free (slice_range bs at to) (round_from (length (slice_range bs at to)) k)) → r ≡ head (filter test (round_from limit k))
  first-free k r h e =
      let es : List ℕ = slice_range bs at to in
      let long : length es ≡ limit = part-long bs at to within ∙ many in
      e (omega (arith, long)) ∙ ap (λ (n : ℕ). first_free es (round_from n k)) long
      ∙ ap head (filter-at (λ j. eqb (get_or es j 0) 0) test (round_from limit k) (λ i l.
      let b : get_or (round_from limit k) i 0 < limit = round-below limit k i h l in
      ap (λ (z : ℕ). eqb z 0) (part-at bs at to (get_or (round_from limit k) i 0) (omega (arith, b, many))) ∙ same (get_or (round_from limit k) i 0) b))

module _ (bs : List ℕ) (k : ℕ) (r : Option ℕ) (t : Tables) (st : Stands t bs) (S : Sound t) where
  pub first-semaphore : Tells (λ t. t.next_semaphore) bs k → (k < length (slice_range bs used_at counts_at) → r ≡ first_free (slice_range bs used_at counts_at) (round_from (length (slice_range bs used_at counts_at)) k)) → r ≡ head (free_semaphores t)
  unfolding Tells
  first-semaphore cursor e =
      let c : k ≡ t.next_semaphore = cursor t st in
      first-free bs used_at counts_at semaphore_limit refl (omega (arith, st.long)) (λ s. not (is_used t s)) (λ i l. ap (λ (z : ℕ). eqb z 0) (used-stands t bs st i l) ∙ unused-byte (is_used t i)) k r (rw c S.laid.cursors.0) e
      ∙ ap (λ (z : ℕ). head (filter (λ s. not (is_used t s)) (round_from semaphore_limit z))) c

  pub first_slot : Tells (λ t. t.next_process) bs k → (k < length (slice_range bs states_at priorities_at) → r ≡ first_free (slice_range bs states_at priorities_at) (round_from (length (slice_range bs states_at priorities_at)) k)) → r ≡ head (free_slots t)
  unfolding Tells
  first_slot cursor e =
      let c : k ≡ t.next_process = cursor t st in
      first-free bs states_at priorities_at process_limit refl (omega (arith, st.long)) (λ p. is_free (state_of t p)) (λ i l. ap (λ (z : ℕ). eqb z 0) (state-stands t bs st i l) ∙ free-byte (state_of t i)) k r (rw c S.laid.cursors.1) e
      ∙ ap (λ (z : ℕ). head (filter (λ p. is_free (state_of t p)) (round_from process_limit z))) c
