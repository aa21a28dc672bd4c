-- The rows show exactly the queues. Assumes nothing.
use Rattle.std.specs.Prelude.{if◌then◌else◌}
use Prim.Native.Nat.{◌<◌, ◌≤◌, suc, zero, ℕ}
use native.Mathlib.Omega.{arith}
use mathlib.Core.Bool.{Bool, ◌&&◌, false, not, true}
use mathlib.Core.List.{List, [], ◌++◌, ◌∷◌, map}
use mathlib.Core.Path.{◌∙◌, ◌≡◌, ap, refl, sym}
use lib.Dec.{eqb}
use lib.ListN.{drop, drop_of_length-le, get_or, length, take}
use lib.Seq.{drop-cons, take_all, take-nil}
use borrow.Author.Tests.{eq-eqb, eqb-true, ne_eqb}
use Rattle.lists.specs.Lists.{at_place, filter, place_in, times}
use Rattle.lists.specs.Numbers.{count_up}
use Rattle.lists.proofs.Bools.{and_in, below?, bool_iff, both, either, split}
use Rattle.lists.proofs.ListLaws.{filter-ext, filter-filter, filter-no, filter-only}
use Rattle.lists.proofs.Places.{place-above, place-holds, place-index}
use Rattle.lists.proofs.Rows.{row-count_up, times-at}
use Rattle.tables.specs.declared.State.{State}
use Rattle.tables.specs.declared.State.TheVariants.{Current, Free, Ready, Suspended, Waiting}
use Rattle.tables.specs.declared.Tables.{Tables}
use Rattle.tables.specs.Limits.{process_limit}
use Rattle.tables.specs.Readers.{is_live, live, queue, state_of}
use Rattle.tables.specs.Sound.{Sound}
use Rattle.tables.specs.States.{awaits, is_free, waits_on}
use Rattle.tables.proofs.LineLaws.{in-line-live, line-passes, live_below}
use Rattle.tables.proofs.Sentences.{few-wait}
use Rattle.tables.proofs.States.{waits-on}
use Rattle.status.specs.Rows.{awaited_shown, place_shown, row_of, rows, state_number}
use Rattle.status.specs.Shown.{queue_shown, shown_at, shown_from, shows}

-- the rows that show a place, as processes
shown-rows : (t : Tables) (s k : ℕ) (ps : List ℕ) → shown_at (map (row_of t) ps) s k ≡ filter (λ p. shows s k (row_of t p)) ps
unfolding shown_at filter
shown-rows t s k [] = refl
shown-rows t s k (p ∷ ps) = ap (λ (l : List ℕ). if shows s k (row_of t p) then p ∷ l else l) (shown-rows t s k ps)

-- a live process's row shows place k of s exactly when it waits on s at that place
shows-waiter : (t : Tables) (s k p : ℕ) → (is_live t p && shows s k (row_of t p)) ≡ (waits_on s (state_of t p) && eqb (place_in p (queue t s)) k)
shows-waiter t s k p = by (state_of t p)
  where
    by : (st : State) → (not (is_free st) && (eqb (state_number st) (state_number (Waiting s)) && (eqb (awaited_shown (awaits st)) s && eqb (place_shown t p (awaits st)) k))) ≡ (waits_on s st && eqb (place_in p (queue t s)) k)
    by Free = refl
    by Current = refl
    by Ready = refl
    by Suspended = refl
    by (Waiting r) = either r s (λ e. rw e) (λ d. rw (ne_eqb r s d))

module _ {t : Tables} (S : Sound t) (s : ℕ) where
  abbrev q : List ℕ
  q = queue t s

  once : (p : ℕ) → times p q ≡ (if waits_on s (state_of t p) then 1 else 0)
  once p = in-line-live S.laid p (waits_on s) refl

  stands : (p : ℕ) → waits_on s (state_of t p) ≡ true → 1 ≤ times p q
  stands p h = let e : times p q ≡ 1 = once p ∙ rw h in omega (arith, e)

  abbrev test : ℕ → ℕ → Bool
  test k p = waits_on s (state_of t p) && eqb (place_in p q) k

  shown-filter : (k : ℕ) → shown_at (rows t) s k ≡ filter (test k) (count_up 0 process_limit)
  unfolding rows live
  shown-filter k =
      shown-rows t s k (live t)
      ∙ filter-filter (λ p. shows s k (row_of t p)) (is_live t) (count_up 0 process_limit)
      ∙ filter-ext (count_up 0 process_limit) (shows-waiter t s k)

  -- nobody is shown at a place where no waiter stands
  shown-nobody : (k : ℕ) → ((p : ℕ) → waits_on s (state_of t p) ≡ true → place_in p q ≡ k → ⊥) → shown_at (rows t) s k ≡ []
  shown-nobody k nobody =
      shown-filter k
      ∙ filter-no (test k) (count_up 0 process_limit) (λ p. split (waits_on s (state_of t p)) (λ e. rw e (ne_eqb (place_in p q) k (nobody p e))) (λ e. rw e))

  module _ (k : ℕ) (h : k < length q) where
    abbrev x : ℕ
    x = get_or q k 0

    waits : waits_on s (state_of t x) ≡ true
    waits = line-passes t (waits_on s) x (times-at q k h)

    only : (p : ℕ) → test (suc k) p ≡ eqb p x
    only p =
        bool_iff (test (suc k) p) (eqb p x)
        (λ e. let w = both (waits_on s (state_of t p)) (eqb (place_in p q) (suc k)) e in
        let there = place-holds p q (stands p w.0) in
        let d = eqb-true (place_in p q) (suc k) w.1 in
        let is : there.0 ≡ k = omega (arith, there.1, d) in
        eq-eqb p x (sym there.3 ∙ ap (λ (i : ℕ). get_or q i 0) is))
        (λ e. let d = eqb-true p x e in rw d (and_in waits (eq-eqb (place_in x q) (suc k) (place-index q k h (once x ∙ rw waits)))))

    live-x : is_free (state_of t x) ≡ false
    live-x = ap is_free (waits-on (state_of t x) s waits)

    shown-in : shown_at (rows t) s (suc k) ≡ take 1 (drop k q)
    shown-in =
        shown-filter (suc k) ∙ filter-ext (count_up 0 process_limit) only
        ∙ filter-only x (count_up 0 process_limit) ((row-count_up process_limit).once x (live_below S.laid x live-x))
        ∙ sym (ap (take 1) (drop-cons q k 0 h))

  shown-past : (k : ℕ) → length q ≤ k → shown_at (rows t) s (suc k) ≡ take 1 (drop k q)
  shown-past k h =
      shown-nobody (suc k) (λ p e d. let there = place-holds p q (stands p e) in omega (arith, there.1, there.2, d))
      ∙ sym (ap (take 1) (drop_of_length-le q {i = k} h))

  -- at each place the rows show who stands there in the queue, and nobody else
  pub place-shown : (k : ℕ) → shown_at (rows t) s k ≡ at_place k q
  place-shown zero = shown-nobody 0 (λ p e d. let l = place-above p q in omega (arith, l, d))
  place-shown (suc k) = below? k (length q) (shown-in k) (shown-past k)

  places-shown : (n k : ℕ) → shown_from (rows t) s (suc k) n ≡ take n (drop k q)
  unfolding shown_from
  places-shown zero k = refl
  places-shown (suc n) k =
      ap (λ (l : List ℕ). shown_at (rows t) s (suc k) ++ l) (places-shown n (suc k)) ∙ ap (λ (l : List ℕ). l ++ take n (drop (suc k) q)) (place-shown (suc k))
      ∙ below? k (length q)
      (λ h. rw (drop-cons q k 0 h))
      (λ h. rw (drop_of_length-le q {i = k} h, drop_of_length-le q {i = suc k} (omega arith)) (take-nil n))

  -- so its waiters by place are the queue
  pub queue-shown : queue_shown (rows t) s ≡ queue t s
  unfolding queue_shown
  queue-shown = places-shown process_limit 0 ∙ take_all process_limit q (let l = few-wait S s in omega (arith, l))
