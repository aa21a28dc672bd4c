-- Who is found first in the row by the byte of a state, and the lines that such a search speaks of. Assumes nothing.
use Prim.Native.Nat.{◌+◌, ◌<◌, ◌≤◌, suc, ℕ}
use native.Mathlib.Omega.{arith}
use mathlib.Core.Bool.{Bool, false, true}
use mathlib.Core.List.{List, [], ◌∷◌}
use mathlib.Core.Path.{◌∙◌, ◌≡◌, ap, refl, subst, sym}
use lib.Dec.{eqb, ltb}
use lib.ListN.{drop, get_or, length}
use borrow.Author.Tests.{eq-eqb, lt-ltb, ne_eqb}
use Rattle.layout.specs.Bytes.{state_byte, waiting_from}
use Rattle.layout.specs.Offsets.{next_semaphore_at, order_at, size, states_at}
use Rattle.layout.specs.Stands.{Stands, Tells}
use Rattle.lists.specs.Lists.{filter, place_in}
use Rattle.tables.specs.Limits.{process_limit, semaphore_limit}
use Rattle.tables.specs.Readers.{line, queue, ready_list, state_of}
use Rattle.tables.specs.States.{is_current, is_ready, waits_on}
use Rattle.tables.specs.declared.State.{State}
use Rattle.tables.specs.declared.State.TheVariants.{Current, Free, Ready, Suspended, Waiting}
use Rattle.tables.specs.declared.Tables.{Tables}
use Rattle.layout.proofs.Readers.{place_read, state-stands, wait-byte}
use Rattle.lists.proofs.Bools.{either, split}
use Rattle.lists.proofs.Folds.{part-at, part-long}
use Rattle.lists.proofs.ListLaws.{filter-ext}
use Rattle.lists.proofs.RoundLaws.{filter-at}
use Rattle.std.specs.List.{find, slice_range}
use Rattle.std.specs.Option.{option_map}
use Rattle.std.specs.Prelude.{Option, None, Some}
use Rattle.std.proofs.lemmas.Iterator.Adapters.{option_map_id}
use Rattle.std.proofs.lemmas.List.{ext_get_or}
use Rattle.std.proofs.lemmas.Option.{none-some, same_Some}
use Rattle.order.specs.Row.{by_byte, found, has_state, head, place_among}
use Rattle.lists.proofs.Walks.{filter-done, filter-in, filter-over}
use Rattle.lists.proofs.Places.{place_here, place_none, place-on}

-- the state byte of who stands at place i
pub place_byte : (bs : List ℕ) (i q : ℕ) → i < process_limit → Tells (λ t. get_or t.order i 0) bs q → (t : Tables) → Stands t bs → get_or bs (states_at + q) 0 ≡ state_byte (state_of t (get_or t.order i 0))
unfolding Tells
place_byte bs i q h at t st = ap (λ (z : ℕ). get_or bs (states_at + z) 0) (at t st) ∙ state-stands t bs st (get_or t.order i 0) (st.held.row i h)

-- A line by the byte of the state

same_line : (t : Tables) (f g : State → Bool) → ((s : State) → f s ≡ g s) → line t f ≡ line t g
unfolding line
same_line t f g e = filter-ext t.order (λ p. e (state_of t p))

pub line-ready : (t : Tables) → line t (by_byte 2) ≡ ready_list t
line-ready t = same_line t (by_byte 2) is_ready same
  where
    same : (s : State) → by_byte 2 s ≡ is_ready s
    same Free = refl
    same Current = refl
    same Ready = refl
    same Suspended = refl
    same (Waiting q) = wait-byte q 2 (omega arith)

pub current-byte : (s : State) → by_byte 1 s ≡ is_current s
current-byte Free = refl
current-byte Current = refl
current-byte Ready = refl
current-byte Suspended = refl
current-byte (Waiting q) = wait-byte q 1 (omega arith)

pub line-queue : (t : Tables) (s : ℕ) → s < semaphore_limit → line t (by_byte (waiting_from + s)) ≡ queue t s
line-queue t s h = same_line t (by_byte (waiting_from + s)) (waits_on s) same
  where
    named : (q : ℕ) → state_byte (Waiting q) ≡ waiting_from + s → q ≡ s
    named q = split (ltb q semaphore_limit) (λ e. rw e (λ z. omega arith)) (λ e. rw e (λ z. absurd (omega arith)))

    same : (x : State) → by_byte (waiting_from + s) x ≡ waits_on s x
    same Free = ne_eqb 0 (waiting_from + s) (λ z. omega arith)
    same Current = ne_eqb 1 (waiting_from + s) (λ z. omega arith)
    same Ready = ne_eqb 2 (waiting_from + s) (λ z. omega arith)
    same Suspended = ne_eqb 3 (waiting_from + s) (λ z. omega arith)
    same (Waiting q) =
        either q s
        (λ e. rw (e, lt-ltb s semaphore_limit h) (eq-eqb (waiting_from + s) (waiting_from + s) refl ∙ sym (eq-eqb s s refl)))
        (λ n. ne_eqb (state_byte (Waiting q)) (waiting_from + s) (λ e. n (named q e)) ∙ sym (ne_eqb q s n))

-- What a search tells

-- a search in a list finds the first entry that passes
find-first : (f : ℕ → Bool) (xs : List ℕ) → find f xs ≡ head (filter f xs)
unfolding filter
find-first f [] = refl
find-first f (x ∷ xs) = split (f x) (λ e. rw e) (λ e. rw e (find-first f xs))

pub found-first : (f : ℕ → Bool) (xs : List ℕ) (r : Option ℕ) → option_map (λ x. x) r ≡ find f xs → r ≡ head (filter f xs)
found-first f xs r e = sym (option_map_id r) ∙ e ∙ find-first f xs

-- the bytes of the row are the row
pub row-tells : (bs : List ℕ) → length bs ≡ size → (length (slice_range bs order_at next_semaphore_at) ≡ process_limit) × Tells (λ t. t.order) bs (slice_range bs order_at next_semaphore_at)
unfolding Tells
row-tells bs l =
    let long = part-long bs order_at next_semaphore_at (omega (arith, l)) in
    (long, λ t st. ext_get_or 0 (slice_range bs order_at next_semaphore_at) t.order (long ∙ sym st.held.places) (λ i h. part-at bs order_at next_semaphore_at i (omega (arith, h, long)) ∙ place_read t bs st i (omega (arith, h, long))))

-- those in the row whose state is byte b, by the bytes
in-state : (b : ℕ) (bs row : List ℕ) → Tells (λ t. t.order) bs row → (t : Tables) → Stands t bs → filter (has_state bs b) row ≡ line t (by_byte b)
unfolding Tells line
in-state b bs row is t st =
    ap (filter (has_state bs b)) (is t st)
    ∙ filter-at (has_state bs b) (λ p. by_byte b (state_of t p)) t.order (λ i h. ap (λ (z : ℕ). eqb z b) (state-stands t bs st (get_or t.order i 0) (st.held.row i (omega (arith, st.held.places)))))

-- the place of p among those of a list that pass, counted entry by entry: n so far, and from entry i on the place is as many more
module _ (f : ℕ → Bool) (p : ℕ) (xs : List ℕ) where
  abbrev pub CountsTo : ℕ → ℕ → Type 0
  CountsTo i n = (n ≤ i + 1) × (n + place_in p (filter f (drop i xs)) ≡ suc (place_in p (filter f xs)))

  pub count-start : CountsTo 0 1
  count-start = (omega arith, omega arith)

  module _ (i n : ℕ) (c : CountsTo i n) where
    pub count-here : i < length xs → f (get_or xs i 0) ≡ true → get_or xs i 0 ≡ p → n ≡ place_in p (filter f xs)
    count-here h t e =
        let one : place_in p (filter f (drop i xs)) ≡ 1 = ap (place_in p) (filter-in f xs i h t ∙ ap (λ (x : ℕ). x ∷ filter f (drop (i + 1) xs)) e) ∙ place_here p (filter f (drop (i + 1) xs)) in
        omega (arith, c.1, one)

    pub count_past : i < length xs → f (get_or xs i 0) ≡ true → (get_or xs i 0 ≡ p → ⊥) → CountsTo (i + 1) (n + 1)
    count_past h t d = let more = ap (place_in p) (filter-in f xs i h t) ∙ place-on p (get_or xs i 0) (filter f (drop (i + 1) xs)) d in (omega (arith, c.0), omega (arith, c.1, more))

    pub count-over : i < length xs → f (get_or xs i 0) ≡ false → CountsTo (i + 1) n
    count-over h t = let same = ap (place_in p) (filter-over f xs i h t) in (omega (arith, c.0), omega (arith, c.1, same))

    pub count-end : length xs ≤ i → n ≡ place_in p (filter f xs)
    count-end h =
        let one : place_in p (filter f (drop i xs)) ≡ 1 = ap (place_in p) (filter-done f xs i h) ∙ place_none p in
        omega (arith, c.1, one)

module _ (b : ℕ) (bs row : List ℕ) (is : Tells (λ t. t.order) bs row) where
  pub find-tells : (r : Option ℕ) → option_map (λ x. x) r ≡ find (has_state bs b) row → Tells (found b) bs r
  unfolding Tells
  find-tells r e t st = found-first (has_state bs b) row r e ∙ ap head (in-state b bs row is t st)

  pub count-tells : (p n : ℕ) → n ≡ place_in p (filter (has_state bs b) row) → Tells (place_among b p) bs n
  unfolding Tells
  count-tells p n e t st = e ∙ ap (place_in p) (in-state b bs row is t st)

-- who heads a list
pub first-none : (xs : List ℕ) → head xs ≡ None → xs ≡ []
first-none [] e = refl
first-none (x ∷ xs) e = absurd (none-some x (sym e))

pub first_some : (xs : List ℕ) (q : ℕ) → head xs ≡ Some q → (rest : List ℕ) × (xs ≡ q ∷ rest)
first_some [] q e = absurd (none-some q e)
first_some (x ∷ xs) q e = (xs, ap (λ (z : ℕ). z ∷ xs) (same_Some x q e))

pub first-below : (f : ℕ → Bool) (limit q : ℕ) (xs : List ℕ) → ((i : ℕ) → i < length xs → get_or xs i 0 < limit) → head (filter f xs) ≡ Some q → q < limit
unfolding filter
first-below f limit q [] h = λ e. absurd (none-some q e)
first-below f limit q (x ∷ xs) h =
    split (f x)
    (λ e. rw e (λ s. subst (λ (z : ℕ). z < limit) (same_Some x q s) (h 0 (omega arith))))
    (λ e. rw e (first-below f limit q xs (λ i l. h (suc i) (omega arith))))

module _ (b : ℕ) (bs : List ℕ) (r : Option ℕ) (told : Tells (found b) bs r) (t : Tables) (st : Stands t bs) where
  pub told-nobody : r ≡ None → line t (by_byte b) ≡ []
  unfolding Tells
  told-nobody e = first-none (line t (by_byte b)) (sym (told t st) ∙ e)

  pub told-somebody : (q : ℕ) → r ≡ Some q → (q < process_limit) × (rest : List ℕ) × (line t (by_byte b) ≡ q ∷ rest)
  unfolding Tells line
  told-somebody q e =
      let is : head (line t (by_byte b)) ≡ Some q = sym (told t st) ∙ e in
      let small : (i : ℕ) → i < length t.order → get_or t.order i 0 < process_limit = λ i h. st.held.row i (omega (arith, st.held.places)) in
      let w = first_some (line t (by_byte b)) q is in
      (first-below (λ p. by_byte b (state_of t p)) process_limit q t.order small is, w.0, w.1)
