-- All waiters become ready: the line is read first, then each is made ready. Assumes nothing.
use Rattle.std.specs.Prelude.{Option, None, Some}
use Rattle.std.specs.Bool.{then_some}
use Rattle.std.specs.List.{filter_map}
use Rattle.std.proofs.lemmas.List.{take_more}
use Rattle.std.proofs.lemmas.List.Elements.{filter_map-append}
use Prim.Native.Nat.{◌+◌, ◌<◌, ◌≤◌, suc, zero, ℕ}
use native.Mathlib.Omega.{arith}
use mathlib.Core.Bool.{◌&&◌, Bool, and-true}
use mathlib.Core.List.{List, [], ◌++◌, ◌∷◌, append-nil}
use mathlib.Core.Path.{◌∙◌, ◌≡◌, ap, refl, subst}
use lib.Dec.{eqb, ltb}
use borrow.Author.Tests.{le-ltb, lt-ltb}
use lib.ListN.{get_or, length, take}
use lib.Seq.{take_all}
use Rattle.layout.specs.Offsets.{states_at}
use Rattle.layout.specs.Stands.{Stands, Tells, Turns}
use Rattle.lists.specs.Lists.{filter}
use Rattle.lists.specs.Numbers.{listed}
use Rattle.order.specs.Row.{by_byte}
use Rattle.rules.specs.Schedule.{make_all_ready, make_ready}
use Rattle.tables.specs.Limits.{process_limit}
use Rattle.tables.specs.Readers.{line, state_of}
use Rattle.tables.specs.declared.Tables.{Tables}
use Rattle.lists.proofs.Bools.{split}
use Rattle.lists.proofs.ListLaws.{filter-filter}
use Rattle.lists.proofs.RoundLaws.{filter-append, filter-at}
use Rattle.lists.proofs.NumberLaws.{listed-all}
use Rattle.order.proofs.Found.{place_byte}
use Rattle.scheduling.specs.Waiters.{marked, numbers}

-- The line, read place by place

pub mark-tells : (b : ℕ) (bs : List ℕ) (i q : ℕ) → i < process_limit → Tells (λ t. get_or t.order i 0) bs q → (r : Option ℕ) → r ≡ then_some (eqb (get_or bs (states_at + q) 0) b) q → Tells (λ t. marked t b i) bs r
unfolding Tells
mark-tells b bs i q h at r e t st =
    e ∙ ap (λ (z : ℕ). then_some (eqb z b) q) (place_byte bs i q h at t st) ∙ ap (then_some (by_byte b (state_of t (get_or t.order i 0)))) (at t st)

-- those marked, without the places where nobody is
there-marked : (t : Tables) (b k n : ℕ) → filter_map (λ x. x) (listed k n (marked t b)) ≡ filter (λ p. by_byte b (state_of t p)) (listed k n (λ i. get_or t.order i 0))
unfolding listed filter
there-marked t b k zero = refl
there-marked t b k (suc n) = split (by_byte b (state_of t (get_or t.order k 0))) (λ e. rw (e, there-marked t b (suc k) n) refl) (λ e. rw (e, there-marked t b (suc k) n) refl)

-- are the line: every entry of the row is a process number
pub picked-line : (t : Tables) (bs : List ℕ) → Stands t bs → (b : ℕ) → numbers (listed 0 process_limit (marked t b)) ≡ line t (by_byte b)
unfolding line
picked-line t bs st b =
    let f : ℕ → Bool = λ p. by_byte b (state_of t p) in
    let small : ℕ → Bool = λ p. ltb p process_limit in
    ap (filter small) (there-marked t b 0 process_limit ∙ ap (filter f) (listed-all 0 (λ i. get_or t.order i 0) process_limit t.order st.held.places (λ i h. refl)))
    ∙ filter-filter small f t.order
    ∙ filter-at (λ p. f p && small p) f t.order (λ i h. rw (lt-ltb (get_or t.order i 0) process_limit (st.held.row i (omega (arith, st.held.places))), and-true (f (get_or t.order i 0))) refl)

-- Each made ready

one-more : (t : Tables) (xs : List ℕ) (q : ℕ) → make_all_ready t (xs ++ q ∷ []) ≡ make_ready (make_all_ready t xs) q
unfolding make_all_ready
one-more t [] q = refl
one-more t (x ∷ xs) q = one-more (make_ready t x) xs q

-- the entries of the first i places are ready
unfoldable pub Frees : List (Option ℕ) → List ℕ → ℕ → List ℕ → Type 0
Frees ps a i b = Turns (λ t. make_all_ready t (numbers (take i ps))) a b

pub free-start : (ps : List (Option ℕ)) (a : List ℕ) → Frees ps a 0 a
unfolding Frees Turns make_all_ready filter
free-start ps a t st = st

module _ (ps : List (Option ℕ)) (a b : List ℕ) (i : ℕ) (f : Frees ps a i b) where
  pub free-end : length ps ≤ i → Turns (λ t. make_all_ready t (numbers ps)) a b
  unfolding Frees
  free-end l = subst (λ (xs : List (Option ℕ)). Turns (λ t. make_all_ready t (numbers xs)) a b) (take_all i ps l) f

  module _ (l : i < length ps) where
    so_far : numbers (take (i + 1) ps) ≡ numbers (take i ps) ++ numbers (get_or ps i None ∷ [])
    so_far =
        let small : ℕ → Bool = λ p. ltb p process_limit in
        ap numbers (take_more ps i None l)
        ∙ ap (filter small) (filter_map-append (λ x. x) (take i ps) (get_or ps i None ∷ []))
        ∙ filter-append small (filter_map (λ x. x) (take i ps)) (filter_map (λ x. x) (get_or ps i None ∷ []))

    skipped : numbers (get_or ps i None ∷ []) ≡ [] → Frees ps a (i + 1) b
    unfolding Frees Turns
    skipped e t st = rw (so_far, e, append-nil) (f t st)

    pub free_none : get_or ps i None ≡ None → Frees ps a (i + 1) b
    unfolding filter
    free_none e = skipped (rw e refl)

    module _ (q : ℕ) (is : get_or ps i None ≡ Some q) where
      pub free-over : process_limit ≤ q → Frees ps a (i + 1) b
      unfolding filter
      free-over h = skipped (rw (is, le-ltb q process_limit h) refl)

      pub free_one : q < process_limit → (d : List ℕ) → (q < process_limit → Turns (λ t. make_ready t q) b d) → Frees ps a (i + 1) d
      unfolding Frees Turns filter
      free_one h d put t st = rw (so_far, is, lt-ltb q process_limit h, one-more t (numbers (take i ps)) q) (put h (make_all_ready t (numbers (take i ps))) (f t st))
