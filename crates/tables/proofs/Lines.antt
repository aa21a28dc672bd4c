-- What is counted by slot is what stands in the row: how long a line is, and who is current. Assumes nothing.
use Rattle.std.specs.Prelude.{if◌then◌else◌}
use Prim.Native.Nat.{ℕ, ◌<◌}
use native.Mathlib.Omega.{arith}
use mathlib.Core.Bool.{Bool, true, ◌&&◌}
use mathlib.Core.List.{List, [], ◌∷◌}
use mathlib.Core.Path.{◌≡◌, refl}
use lib.Dec.{eqb, ltb}
use lib.ListN.{length, get_or}
use borrow.Author.Tests.{eq-eqb, lt-ltb, ltb-true}
use Rattle.lists.specs.Lists.{times, first_or, first}
use Rattle.lists.specs.Numbers.{all, total}
use Rattle.lists.proofs.Bools.{and_in, bool_iff}
use Rattle.lists.proofs.NumberLaws.{all-at, all_true}
use Rattle.lists.proofs.Rows.{within, within-member, Row, row-many, row_first, row-all}
use Rattle.tables.specs.declared.State.{State}
use Rattle.tables.specs.declared.Tables.{Tables}
use Rattle.tables.specs.Limits.{process_limit}
use Rattle.tables.specs.States.{is_current}
use Rattle.tables.specs.Readers.{state_of, line, currents, current_of}
use Rattle.tables.specs.Test.{once_each}
use Rattle.tables.proofs.LineLaws.{line-stands}
use Rattle.tables.proofs.TestLaws.{row_of}

module _ (t : Tables) (l : length t.order ≡ process_limit) (h : once_each t.order ≡ true) where
  -- as many stand in a line as there are slots whose state passes its test
  pub line-many : (test : State → Bool) → length (line t test) ≡ total process_limit (λ p. if test (state_of t p) then 1 else 0)
  unfolding line
  line-many test = row-many (row_of t.order l h) (λ p. test (state_of t p))

  -- the current process is the sum of the numbers of the current ones, where exactly one is
  pub current-sum : length (currents t) ≡ 1 → current_of t ≡ total process_limit (λ p. if is_current (state_of t p) then p else 0)
  unfolding line
  current-sum one = row_first (row_of t.order l h) (λ p. is_current (state_of t p)) one

  -- and so is a process number, before anything else is known of the tables
  pub current-inside : length (currents t) ≡ 1 → current_of t < process_limit
  unfolding first_or
  current-inside one = go (currents t) refl one
    where
      go : (c : List ℕ) → currents t ≡ c → length c ≡ 1 → first c < process_limit
      go [] e k = absurd (omega arith)
      go (p ∷ ps) e k = within-member process_limit t.order p (row_of t.order l h).inside (line-stands t is_current p ps e)

-- where every entry is a process number, each number there at least once is each exactly once
pub all_among : (xs : List ℕ) → length xs ≡ process_limit → ((i : ℕ) → i < process_limit → get_or xs i 0 < process_limit) → all process_limit (λ p. ltb 0 (times p xs)) ≡ once_each xs
unfolding once_each
all_among xs l h =
    bool_iff (all process_limit (λ p. ltb 0 (times p xs))) (all process_limit (λ i. ltb (get_or xs i 0) process_limit) && all process_limit (λ p. eqb (times p xs) 1))
    (λ g. and_in (all_true process_limit (λ i. ltb (get_or xs i 0) process_limit) (λ i k. lt-ltb (get_or xs i 0) process_limit (h i k)))
    (all_true process_limit (λ p. eqb (times p xs) 1) (λ p k. eq-eqb (times p xs) 1 ((r g).once p k))))
    (λ g. all_true process_limit (λ p. ltb 0 (times p xs)) (λ p k. let e : times p xs ≡ 1 = (row_of xs l g).once p k in lt-ltb 0 (times p xs) (omega arith)))
  where
    r : all process_limit (λ p. ltb 0 (times p xs)) ≡ true → Row process_limit xs
    r g = row-all process_limit xs l (within process_limit xs (λ i k. h i (omega arith))) (λ p k. ltb-true 0 (times p xs) (all-at (λ p. ltb 0 (times p xs)) process_limit p g k))
