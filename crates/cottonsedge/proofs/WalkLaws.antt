-- The page of the definitions, row after row: how many are written, of whom, and what is left. Assumes nothing.
use Prim.Native.Nat.{◌<◌, ◌≤◌, ℕ, zero, suc}
use native.Mathlib.Nat.{le_of_suc-le-suc, not-suc-le-zero}
use native.Mathlib.Omega.{arith}
use mathlib.Core.Bool.{true}
use mathlib.Core.List.{List, [], ◌∷◌, ◌++◌}
use mathlib.Core.Path.{◌∙◌, ◌≡◌, ap, refl, sym}
use lib.ListN.{drop, length, set}
use Rattle.layout.specs.Bytes.{from_bytes, well_formed}
use Rattle.lists.specs.Numbers.{listed}
use Rattle.soundness.specs.Good.{good}
use Rattle.tables.specs.Readers.{live}
use Rattle.tables.specs.declared.Tables.{Tables}
use Rattle.status.specs.declared.Row.{Row}
use Rattle.status.specs.Rows.{rows}
use Rattle.status.specs.Search.{row_from}
use Rattle.soundness.proofs.GoodBytes.{good-formed}
use Rattle.status.proofs.LiveLaws.{next_of}
use Rattle.status.proofs.RowByRow.{row_next, row_at, rows-each, rows_long}
use Rattle.cottonsedge.specs.Pages.{page_answer, rows_after}
use Rattle.cottonsedge.specs.Walk.{written}
use Rattle.cottonsedge.proofs.PageLaws.{answer-bad, answer-done, answer-few, page-cases}

module _ {A : Type 0} (f : ℕ → A) where
  -- the first i are f of their places
  abbrev pub filled : ℕ → List A → List A
  filled zero xs = xs
  filled (suc i) xs = set (filled i xs) i (f i)

module _ {A : Type 0} where
  -- the first entry written is the first of the list
  filled-front : (f : ℕ → A) (n : ℕ) (x : A) (xs : List A) → filled f (suc n) (x ∷ xs) ≡ f 0 ∷ filled (λ i. f (suc i)) n xs
  filled-front f zero x xs = refl
  filled-front f (suc n) x xs = ap (λ (l : List A). set l (suc n) (f (suc n))) (filled-front f n x xs)

  shifted : (f : ℕ → A) (k n : ℕ) → listed (suc k) n f ≡ listed k n (λ i. f (suc i))
  unfolding listed
  shifted f k zero = refl
  shifted f k (suc n) = ap (λ (l : List A). f (suc k) ∷ l) (shifted f (suc k) n)

  -- behind those written the list is as it was
  filled_is : (f : ℕ → A) (n : ℕ) (xs : List A) → n ≤ length xs → filled f n xs ≡ listed 0 n f ++ drop n xs
  unfolding listed
  filled_is f zero xs l = refl
  filled_is f (suc n) [] l = absurd (not-suc-le-zero l)
  filled_is f (suc n) (x ∷ xs) l =
      filled-front f n x xs ∙ ap (λ (ys : List A). f 0 ∷ ys) (filled_is (λ i. f (suc i)) n xs (le_of_suc-le-suc l) ∙ ap (λ (ys : List A). ys ++ drop n xs) (sym (shifted f 0 n)))

module _ (bs : List ℕ) (lent : ℕ) where
  -- no more rows are written than are lent
  pub rows-within : written (page_answer bs lent) ≤ lent
  rows-within = page-cases bs lent (λ g. rw (answer-bad bs lent g) (omega arith)) (λ g l. rw (answer-few bs lent g l) (omega arith)) (λ g l. rw (answer-done bs lent g l) l)

  -- a row is asked for of good bytes, and for a live process
  row-due : (i : ℕ) → i < written (page_answer bs lent) → (good bs ≡ true) × (i < length (live (from_bytes bs)))
  row-due i h =
      page-cases bs lent
      (λ g. let k : i < 0 = rw (answer-bad bs lent g) at h in absurd (omega (arith, k)))
      (λ g l. let k : i < 0 = rw (answer-few bs lent g l) at h in absurd (omega (arith, k)))
      (λ g l. (g, rw (answer-done bs lent g l) at h))

  pub row-asked : (i : ℕ) → i < written (page_answer bs lent) → well_formed bs ≡ true
  row-asked i h = good-formed bs (row-due i h).0

-- what is written one by one is the page
pub page-is : (bs : List ℕ) (lent : List Row) → filled (row_at (from_bytes bs)) (written (page_answer bs (length lent))) lent ≡ rows_after bs lent
unfolding rows_after
page-is bs lent =
    let n : ℕ = length lent in
    let t : Tables = from_bytes bs in
    page-cases bs n
    (λ g. rw (answer-bad bs n g))
    (λ g l. rw (answer-few bs n g l))
    (λ g l. rw (answer-done bs n g l) (filled_is (row_at t) (length (live t)) lent l ∙ ap (λ (rs : List Row). rs ++ drop (length (live t)) lent) (rows-each t) ∙ ap (λ (n : ℕ). rows t ++ drop n lent) (sym (rows_long t))))

-- from where the search begins it finds the row
pub row-found : (bs : List ℕ) (lent i : ℕ) → i < written (page_answer bs lent) → row_from (from_bytes bs) (next_of (from_bytes bs) i) ≡ row_at (from_bytes bs) i
row-found bs lent i h = row_next (from_bytes bs) i (row-due bs lent i h).1
