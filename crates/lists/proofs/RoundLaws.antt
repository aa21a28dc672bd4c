-- Laws of a search that goes round: what it finds, and what it passed over. Assumes nothing.
use Prim.Native.Nat.{◌+◌, ◌-◌, ◌<◌, ◌≤◌, suc, zero, ℕ}
use native.Mathlib.Omega.{arith}
use mathlib.Core.Bool.{Bool, false, true, true≢false}
use mathlib.Core.List.{List, [], ◌++◌, ◌∷◌, append-nil}
use mathlib.Core.Path.{◌∙◌, ◌≡◌, ap, refl, subst, sym}
use lib.Dec.{eqb}
use lib.ListN.{get_or-append, get_or, length, length-append}
use lib.Seq.{get_or-append-add}
use borrow.Author.Tests.{eqb-true, le-ltb, lt-ltb}
use Rattle.lists.specs.Lists.{filter, first, first_or, is_empty, times}
use Rattle.lists.specs.Numbers.{FirstFrom, count_up, listed, onward, round_from}
use Rattle.lists.proofs.Bools.{below?, split}
use Rattle.lists.proofs.ListLaws.{times-append}
use Rattle.lists.proofs.NumberLaws.{listed_at, listed-from, listed-length}
use Rattle.lists.proofs.Rows.{times-at}

pub in-count_up : (x k n : ℕ) → 1 ≤ times x (count_up k n) → (k ≤ x) × (x < k + n)
unfolding times listed
in-count_up x k zero h = absurd (omega arith)
in-count_up x k (suc n) h =
    split (eqb k x) (λ e. let d = eqb-true k x e in omega arith) (λ e. let d = in-count_up x (suc k) n (rw e at h) in omega arith)

pub in-round : (x size k : ℕ) → k < size → 1 ≤ times x (round_from size k) → x < size
unfolding round_from
in-round x size k h a =
    let b : 1 ≤ times x (count_up k (size - k)) + times x (count_up 0 k) = rw times-append at a in
    below? 0 (times x (count_up 0 k))
    (λ c. let d : (0 ≤ x) × (x < 0 + k) = in-count_up x 0 k c in omega arith)
    (λ c. let d : (k ≤ x) × (x < k + (size - k)) = in-count_up x k (size - k) (omega arith) in omega arith)

-- Two lists searched as one

pub filter-append : (f : ℕ → Bool) (xs ys : List ℕ) → filter f (xs ++ ys) ≡ filter f xs ++ filter f ys
unfolding filter
filter-append f [] ys = refl
filter-append f (x ∷ xs) ys = split (f x) (λ e. rw (e, filter-append f xs ys) refl) (λ e. rw (e, filter-append f xs ys) refl)

-- the numbers from k on are some of them, and those from there on
pub count_up-append : (k m n j l : ℕ) → j ≡ k + m → l ≡ m + n → count_up k l ≡ count_up k m ++ count_up j n
unfolding listed
count_up-append k zero n j l hj hl = let a : j ≡ k = omega arith in let b : l ≡ n = omega arith in rw (a, b)
count_up-append k (suc m) n j l hj hl =
    let a : l ≡ suc (m + n) = omega arith in
    rw a (ap (λ (z : List ℕ). k ∷ z) (count_up-append (suc k) m n j (m + n) (omega arith) refl))

-- where nothing is found from k on, going round finds what is found from 0 on
pub round-again : (f : ℕ → Bool) (size k : ℕ) → k ≤ size → filter f (count_up k (size - k)) ≡ [] → filter f (round_from size k) ≡ filter f (count_up 0 size)
unfolding round_from
round-again f size k h e =
    rw (filter-append f (count_up k (size - k)) (count_up 0 k), e)
    (sym (rw (count_up-append 0 k (size - k) k size (omega arith) (omega arith), filter-append f (count_up 0 k) (count_up k (size - k)), e) (append-nil (filter f (count_up 0 k)))))

-- every number of a round is below its size
pub round-below : (size k i : ℕ) → k < size → i < length (round_from size k) → get_or (round_from size k) i 0 < size
round-below size k i h l = in-round (get_or (round_from size k) i 0) size k h (times-at (round_from size k) i l)

-- two tests that agree on the entries of a list pick the same
pub filter-at : (f g : ℕ → Bool) (xs : List ℕ) → ((i : ℕ) → i < length xs → f (get_or xs i 0) ≡ g (get_or xs i 0)) → filter f xs ≡ filter g xs
unfolding filter
filter-at f g [] h = refl
filter-at f g (x ∷ xs) h = rw (h 0 (omega arith), filter-at f g xs (λ i l. h (suc i) (omega arith))) refl

-- What is round-found

-- x is the first of a list that passes the test: it stands at place i, and no entry before it passes
pub record FirstAt (f : ℕ → Bool) (xs : List ℕ) (x i : ℕ) : Type 0 where
  pub inside : i < length xs
  pub here : get_or xs i 0 ≡ x
  pub passes : f x ≡ true
  pub before : (j : ℕ) → j < i → f (get_or xs j 0) ≡ false

pub searched : (f : ℕ → Bool) (xs : List ℕ) → is_empty (filter f xs) ≡ false → (i : ℕ) × FirstAt f xs (first (filter f xs)) i
unfolding filter is_empty first_or
searched f [] h = absurd (true≢false h)
searched f (x ∷ xs) h =
    split (f x) (λ e. rw e (0, record { inside = omega arith; here = refl; passes = e; before = λ j l. absurd (omega arith) }))
    (λ e.
    let w = searched f xs (rw e at h) in
    let r : FirstAt f xs (first (filter f xs)) w.0 = w.1 in
    rw e (suc w.0, record { inside = omega arith; here = r.here; passes = r.passes; before = λ j. elim j as (λ k. k < suc w.0 → f (get_or (x ∷ xs) k 0) ≡ false) [ zero ↦ λ l. e | suc i ↦ λ l. r.before i (omega arith) ] }))

pub round-length : (size k : ℕ) → k < size → length (round_from size k) ≡ size
unfolding round_from
round-length size k h = length-append (count_up k (size - k)) (count_up 0 k) ∙ rw (listed-length (λ i. i) k (size - k), listed-length (λ i. i) 0 k) (omega arith)

pub round-at : (size k i : ℕ) → k < size → i < size → get_or (round_from size k) i 0 ≡ onward size k i
unfolding round_from
round-at size k i h l =
    let n : length (count_up k (size - k)) ≡ size - k = listed-length (λ i. i) k (size - k) in
    below? (k + i) size
    (λ c. rw (lt-ltb (k + i) size c) (get_or-append (count_up k (size - k)) (count_up 0 k) 0 i (omega arith) ∙ listed-from (λ i. i) k (size - k) i 0 (omega arith)))
    (λ c.
    let e : i ≡ length (count_up k (size - k)) + (k + i - size) = omega arith in
    rw (le-ltb (k + i) size c)
    (ap (λ (m : ℕ). get_or (count_up k (size - k) ++ count_up 0 k) m 0) e ∙ get_or-append-add (count_up k (size - k)) (count_up 0 k) (k + i - size) 0 ∙ listed_at (λ i. i) k (k + i - size) 0 (omega arith)))

pub round-found : (f : ℕ → Bool) (size k : ℕ) → k < size → is_empty (filter f (round_from size k)) ≡ false → FirstFrom f size k (first (filter f (round_from size k)))
round-found f size k h e =
    let w = searched f (round_from size k) e in
    let r : FirstAt f (round_from size k) (first (filter f (round_from size k))) w.0 = w.1 in
    let n : length (round_from size k) ≡ size = round-length size k h in
    let il : w.0 < size = omega arith in
    record {
      below = in-round (first (filter f (round_from size k))) size k h (rw r.here at (times-at (round_from size k) w.0 r.inside));
      passes = r.passes;
      places = w.0;
      within = il;
      there = sym (round-at size k w.0 h il) ∙ r.here;
      passed_over = λ j m. rw (round-at size k j h (omega arith)) at (r.before j m);
    }

-- Nothing is found exactly when nothing below the size passes

none_passes : (f : ℕ → Bool) (xs : List ℕ) → is_empty (filter f xs) ≡ true → (i : ℕ) → i < length xs → f (get_or xs i 0) ≡ false
unfolding filter is_empty
none_passes f [] h i k = absurd (omega arith)
none_passes f (x ∷ xs) h zero k = split (f x) (λ e. let z = rw e at h in absurd (true≢false (sym z))) (λ e. e)
none_passes f (x ∷ xs) h (suc i) k = split (f x) (λ e. let z = rw e at h in absurd (true≢false (sym z))) (λ e. none_passes f xs (rw e at h) i (omega arith))

module _ (f : ℕ → Bool) (size k : ℕ) (h : k < size) where
  pub none_found : is_empty (filter f (round_from size k)) ≡ true → (x : ℕ) → x < size → f x ≡ false
  none_found e x l =
      below? x k
      (λ c. subst (λ (y : ℕ). f y ≡ false) (rw (le-ltb (k + (x + size - k)) size (omega arith)) (omega arith)) (at (x + size - k) (omega arith)))
      (λ c. subst (λ (y : ℕ). f y ≡ false) (rw (lt-ltb (k + (x - k)) size (omega arith)) (omega arith)) (at (x - k) (omega arith)))
    where
      at : (i : ℕ) → i < size → f (onward size k i) ≡ false
      at i b = subst (λ (y : ℕ). f y ≡ false) (round-at size k i h b) (none_passes f (round_from size k) e i (rw (round-length size k h) b))

  pub found_none : ((x : ℕ) → x < size → f x ≡ false) → is_empty (filter f (round_from size k)) ≡ true
  found_none n =
      split (is_empty (filter f (round_from size k))) (λ e. e)
      (λ e. let w = round-found f size k h e in absurd (true≢false (sym w.passes ∙ n (first (filter f (round_from size k))) w.below)))
