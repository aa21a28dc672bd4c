-- What the code of the page, and the walk over its rows, ask of the definitions. Assumes nothing.
use Prim.Native.Nat.{◌<◌, ◌≤◌, ℕ}
use native.Mathlib.Omega.{arith}
use mathlib.Core.Bool.{false, true}
use mathlib.Core.List.{List, ◌++◌}
use mathlib.Core.Path.{◌∙◌, ◌≡◌, sym}
use lib.IntN.{pos}
use lib.ListN.{drop, get_or, length}
use borrow.Author.Tests.{le-ltb, lt-ltb}
use Rattle.layout.specs.Bytes.{from_bytes}
use Rattle.layout.specs.Stands.{Tells}
use Rattle.std.specs.Prelude.{Some}
use Rattle.soundness.specs.Good.{current_byte, good, runner_of_bytes}
use Rattle.soundness.proofs.GoodBytes.{some-good}
use Rattle.cottonsedge.specs.Fields.{packed}
use Rattle.tables.specs.Readers.{live, nobody}
use Rattle.tables.specs.declared.Tables.{Tables}
use Rattle.rules.specs.declared.Answer.{Answer}
use Rattle.rules.specs.declared.Answer.TheVariants.{Done, Refused}
use Rattle.status.specs.declared.Row.{Row}
use Rattle.layout.proofs.Image.{stands_read}
use Rattle.lists.proofs.Bools.{below?, split}
use Rattle.lists.specs.Numbers.{listed}
use Rattle.soundness.proofs.GoodBytes.{good-formed}
use Rattle.status.proofs.RowByRow.{row_at, rows-each, rows_long}
use Rattle.cottonsedge.specs.Pages.{Paged, page_answer, rows_after}

module _ (bs : List ℕ) (lent : ℕ) where
  abbrev many : ℕ
  many = length (live (from_bytes bs))

  -- The three answers

  pub answer-bad : good bs ≡ false → page_answer bs lent ≡ Refused 15
  unfolding page_answer
  answer-bad g = rw g

  pub answer-few : good bs ≡ true → lent < many → page_answer bs lent ≡ Refused 16
  unfolding page_answer
  answer-few g l = rw (g, lt-ltb lent many l)

  pub answer-done : good bs ≡ true → many ≤ lent → page_answer bs lent ≡ Done (pos many)
  unfolding page_answer
  answer-done g l = rw (g, le-ltb lent many l)

  pub page-cases {ℓ} : {P : Type ℓ} → (good bs ≡ false → P) → (good bs ≡ true → lent < many → P) → (good bs ≡ true → many ≤ lent → P) → P
  page-cases bad few done = split (good bs) (λ g. below? lent many (few g) (done g)) bad

  pub live-is : (n : ℕ) → ((i : ℕ) → get_or bs i 0 < 256) → good bs ≡ true → Tells (λ t. length (live t)) bs n → n ≡ many
  unfolding Tells
  live-is n byte g told = told (from_bytes bs) (stands_read bs byte (good-formed bs g))

-- The rows that are left

module _ (bs : List ℕ) (lent : List Row) where
  pub rows-bad : good bs ≡ false → rows_after bs lent ≡ lent
  unfolding rows_after
  rows-bad g = rw (answer-bad bs (length lent) g)

  pub rows-few : good bs ≡ true → length lent < length (live (from_bytes bs)) → rows_after bs lent ≡ lent
  unfolding rows_after
  rows-few g l = rw (answer-few bs (length lent) g l)

  -- those shown, and behind them what was lent
  pub rows-done : good bs ≡ true → (n : ℕ) → n ≡ length (live (from_bytes bs)) → n ≤ length lent → (shown : List Row) → shown ≡ listed 0 n (row_at (from_bytes bs)) → shown ++ drop n lent ≡ rows_after bs lent
  unfolding rows_after
  rows-done g n e l shown f =
      let t : Tables = from_bytes bs in
      rw (answer-done bs (length lent) g (omega arith), f, e, rows-each t, rows_long t)

-- What the entry tells

pub paged-bad : (bs : List ℕ) (lent : List Row) (r : ℕ) → good bs ≡ false → r ≡ packed (Refused 15) nobody → Paged bs lent r lent
unfolding current_byte
paged-bad bs lent r g f =
    record {
      answer = f ∙ rw (answer-bad bs (length lent) g, g);
      rows = sym (rows-bad bs lent g);
    }

module _ (bs image : List ℕ) (same : image ≡ bs) (c : ℕ) (e : Some c ≡ runner_of_bytes bs) where
  pub image-good : good image ≡ true
  image-good = rw same (some-good bs c e).0

  pub paged-good : (lent after : List Row) (a : Answer) (p r : ℕ) → a ≡ page_answer image (length lent) → after ≡ rows_after image lent → p ≡ c → r ≡ packed a p → Paged bs lent r after
  unfolding current_byte
  paged-good lent after a p r ea er ep f =
      let known = some-good bs c e in
      record { answer = f ∙ rw (ea, ep, same, known.0, known.1); rows = rw same at er }
