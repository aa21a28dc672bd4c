-- One process moved along the row, where it stands: place by place, up or down. Assumes nothing.
use Prim.Native.Nat.{◌+◌, ◌-◌, ◌<◌, ◌≤◌, suc, zero, ℕ}
use native.Mathlib.Numerals.{add-one}
use native.Mathlib.Omega.{arith}
use mathlib.Core.Bool.{Bool, ◌||◌, cond, false, not, true}
use mathlib.Core.List.{List, [], ◌++◌, ◌∷◌}
use mathlib.Core.Path.{◌∙◌, ◌≡◌, ap, refl, subst, sym}
use lib.Dec.{eqb}
use lib.ListN.{drop, drop_of_length-le, get_or, length, set, take}
use lib.Seq.{append_snoc, drop-cons, drop-set-lt, set_split, take-suc-set}
use borrow.Author.Tests.{eq-eqb, le-ltb, lt-ltb, ne_eqb}
use Rattle.std.specs.List.{position, position_or_len}
use Rattle.std.specs.Option.{unwrap_or}
use Rattle.std.specs.Prelude.{Option}
use Rattle.std.proofs.lemmas.List.{get_or-take, length-take}
use Rattle.std.proofs.lemmas.List.Sums.{prefix_len-le-length}
use Rattle.layout.specs.Bytes.{process_at}
use Rattle.layout.specs.Stands.{Stands, Tells, Turns}
use Rattle.layout.proofs.Readers.{process-read}
use Rattle.lists.specs.Lists.{place, put_before, take_out}
use Rattle.lists.proofs.Bools.{below?, either, split}
use Rattle.tables.specs.Limits.{process_limit}
use Rattle.tables.specs.Readers.{process}
use Rattle.tables.specs.Setters.{with_order}
use Rattle.tables.specs.States.{is_ready}
use Rattle.tables.specs.declared.Process.{Process}
use Rattle.tables.specs.declared.Tables.{Tables}
use Rattle.order.specs.Row.{Spotted, below, low, placed, put_last, risen, sunk}

-- Lists

-- the last store of a walk: what is done, the value, what stood behind
stored : (a : List ℕ) (i v : ℕ) → i < length a → take i a ++ v ∷ drop (i + 1) a ≡ set a i v
stored a i v h = sym (rw add-one (set_split a i v h))

-- a store in the middle of a walk
walked : (a : List ℕ) (i v : ℕ) (rest : List ℕ) → i < length a → take (i + 1) (set a i v) ++ rest ≡ take i a ++ v ∷ rest
walked a i v rest h = rw (add-one, take-suc-set a i v h, append_snoc)

behind : (a : List ℕ) (i v : ℕ) → drop (i + 1) (set a i v) ≡ drop (i + 1) a
behind a i v = rw add-one (drop-set-lt (suc i) a i v (omega arith))

-- a list from place i on
pub next : (a : List ℕ) (i : ℕ) → i < length a → drop i a ≡ get_or a i 0 ∷ drop (i + 1) a
next a i h = rw add-one (drop-cons a i 0 h)

pub ended : (a : List ℕ) (i : ℕ) → length a ≡ i + 1 → drop (i + 1) a ≡ []
ended a i h = drop_of_length-le a {i = i + 1} (omega arith)

module _ (p x : ℕ) where
  pub out-here : (ys : List ℕ) → x ≡ p → take_out p (x ∷ ys) ≡ ys
  unfolding take_out
  out-here [] e = refl
  out-here (y ∷ ys) e = rw (eq-eqb x p e) refl

  pub out-on : (y : ℕ) (ys : List ℕ) → (x ≡ p → ⊥) → take_out p (x ∷ y ∷ ys) ≡ x ∷ take_out p (y ∷ ys)
  unfolding take_out
  out-on y ys e = rw (ne_eqb x p e) refl

  pub out-last : take_out p (x ∷ []) ≡ []
  unfolding take_out
  out-last = refl

  pub before_here : (test : ℕ → Bool) (ys : List ℕ) → test x ≡ true → put_before test p (x ∷ ys) ≡ p ∷ x ∷ ys
  unfolding put_before
  before_here test ys e = rw e refl

  pub before_on : (test : ℕ → Bool) (ys : List ℕ) → test x ≡ false → put_before test p (x ∷ ys) ≡ x ∷ put_before test p ys
  unfolding put_before
  before_on test ys e = rw e refl

pub before-none : (test : ℕ → Bool) (p : ℕ) → put_before test p [] ≡ p ∷ []
unfolding put_before
before-none test p = refl

-- p goes up: the carry c is put in at j, and p taken out behind

pub record Rising (p i : ℕ) (t : Tables) (j c : ℕ) (b : List ℕ) : Type 0 where
  pub row : List ℕ
  pub small : c < process_limit
  pub stands : Stands (with_order t row) b
  pub is : take j row ++ c ∷ take_out p (drop j row) ≡ risen p i t.order

-- the same of all tables that the bytes were
unfoldable pub Rises : ℕ → ℕ → List ℕ → ℕ → ℕ → List ℕ → Type 0
Rises p i a j c b = p < process_limit → (t : Tables) → Stands t a → Rising p i t j c b

pub rise-start : (p i : ℕ) (a : List ℕ) → Rises p i a i p a
unfolding Rises
rise-start p i a h t st = record { row = t.order; small = h; stands = st; is = refl }

module _ (p i : ℕ) (a : List ℕ) (j c : ℕ) (b : List ℕ) (r : Rises p i a j c b) (d : List ℕ) where
  module _ (put : c < process_limit → Turns (λ t. with_order t (set t.order j c)) b d) (h : j + 1 < process_limit) (x : ℕ) (at : Tells (λ t. get_or t.order j 0) b x) where
    pub rise-on : (x ≡ p → ⊥) → Rises p i a (j + 1) x d
    unfolding Rises Turns Tells
    rise-on other hp t st =
        let g = r hp t st in
        let row : List ℕ = g.row in
        let long : length row ≡ process_limit = g.stands.held.places in
        let e : x ≡ get_or row j 0 = at (with_order t row) g.stands in
        let far : drop (j + 1) row ≡ get_or row (j + 1) 0 ∷ drop (j + 1 + 1) row = next row (j + 1) (omega arith) in
        record {
          row = set row j c;
          small = rw e (g.stands.held.row j (omega arith));
          stands = put g.small (with_order t row) g.stands;
          is =
              rw (behind row j c) (walked row j c (x ∷ take_out p (drop (j + 1) row)) (omega arith))
              ∙ ap (λ (z : List ℕ). take j row ++ c ∷ z)
              (ap (λ (z : List ℕ). x ∷ take_out p z) far
              ∙ sym (out-on p x (get_or row (j + 1) 0) (drop (j + 1 + 1) row) other)
              ∙ ap (λ (z : List ℕ). take_out p (x ∷ z)) (sym far)
              ∙ ap (λ (z : ℕ). take_out p (z ∷ drop (j + 1) row)) e
              ∙ ap (take_out p) (sym (next row j (omega arith))))
              ∙ g.is;
        }

    pub rise-stop : x ≡ p → p < process_limit → Turns (λ t. with_order t (risen p i t.order)) a d
    unfolding Rises Turns Tells
    rise-stop same hp t st =
        let g = r hp t st in
        let row : List ℕ = g.row in
        let long : length row ≡ process_limit = g.stands.held.places in
        let e : x ≡ get_or row j 0 = at (with_order t row) g.stands in
        let is : set row j c ≡ risen p i t.order =
        sym (stored row j c (omega arith))
        ∙ ap (λ (z : List ℕ). take j row ++ c ∷ z) (sym (out-here p (get_or row j 0) (drop (j + 1) row) (sym e ∙ same)) ∙ ap (take_out p) (sym (next row j (omega arith))))
        ∙ g.is in
        subst (λ (z : List ℕ). Stands (with_order t z) d) is (put g.small (with_order t row) g.stands)

  pub rise-end : {k : ℕ} → k + 1 ≡ process_limit → j ≡ k → (c < process_limit → Turns (λ t. with_order t (set t.order k c)) b d) → p < process_limit → Turns (λ t. with_order t (risen p i t.order)) a d
  unfolding Rises Turns
  rise-end {k} h e put hp t st =
      let g = r hp t st in
      let row : List ℕ = g.row in
      let long : length row ≡ process_limit = g.stands.held.places in
      let last : drop (j + 1) row ≡ [] = ended row j (omega arith) in
      let is : set row k c ≡ risen p i t.order =
      ap (λ (z : ℕ). set row z c) (sym e) ∙ sym (stored row j c (omega arith))
      ∙ ap (λ (z : List ℕ). take j row ++ c ∷ z) (last ∙ sym (out-last p (get_or row j 0)) ∙ ap (λ (z : List ℕ). take_out p (get_or row j 0 ∷ z)) (sym last) ∙ ap (take_out p) (sym (next row j (omega arith))))
      ∙ g.is in
      subst (λ (z : List ℕ). Stands (with_order t z) d) is (put g.small (with_order t row) g.stands)

-- p goes down: place j is open, and p is put in behind

pub record Sinking (test : ℕ → Bool) (p i : ℕ) (t : Tables) (j : ℕ) (b : List ℕ) : Type 0 where
  pub row : List ℕ
  pub stands : Stands (with_order t row) b
  pub is : sunk test p j row ≡ sunk test p i t.order

unfoldable pub Sinks : ℕ → ℕ → ℕ → List ℕ → ℕ → List ℕ → Type 0
Sinks level p i a j b = p < process_limit → (t : Tables) → Stands t a → Sinking (below level t) p i t j b

pub sink-start : (level p i : ℕ) (a : List ℕ) → Sinks level p i a i a
unfolding Sinks
sink-start level p i a h t st = record { row = t.order; stands = st; is = refl }

module _ (level p i : ℕ) (a : List ℕ) (j : ℕ) (b : List ℕ) (r : Sinks level p i a j b) (d : List ℕ) where
  module _ (h : j + 1 < process_limit) (y : ℕ) (v : Bool) (at : Tells (λ t. get_or t.order (j + 1) 0) b y) (told : v ≡ low level (process_at b y)) where
    -- what was read, of the tables
    seen : (t : Tables) (g : Sinking (below level t) p i t j b) → (y < process_limit) × (v ≡ below level t y) × (drop (j + 1) g.row ≡ y ∷ drop (j + 1 + 1) g.row)
    unfolding Tells
    seen t g =
        let row : List ℕ = g.row in
        let long : length row ≡ process_limit = g.stands.held.places in
        let e : y ≡ get_or row (j + 1) 0 = at (with_order t row) g.stands in
        let small : y < process_limit = rw e (g.stands.held.row (j + 1) (omega arith)) in
        (small, told ∙ ap (low level) (process-read (with_order t row) b g.stands y small), next row (j + 1) (omega arith) ∙ ap (λ (z : ℕ). z ∷ drop (j + 1 + 1) row) (sym e))

    pub sink-on : v ≡ false → (y < process_limit → Turns (λ t. with_order t (set t.order j y)) b d) → Sinks level p i a (j + 1) d
    unfolding Sinks Turns
    sink-on low put hp t st =
        let g = r hp t st in
        let row : List ℕ = g.row in
        let long : length row ≡ process_limit = g.stands.held.places in
        let w = seen t g in
        let rest : List ℕ = drop (j + 1 + 1) row in
        let tail : drop (j + 1 + 1) (set row j y) ≡ rest = drop-set-lt (j + 1 + 1) row j y (omega arith) in
        record {
          row = set row j y;
          stands = put w.0 (with_order t row) g.stands;
          is =
              ap (λ (z : List ℕ). take (j + 1) (set row j y) ++ put_before (below level t) p z) tail
              ∙ walked row j y (put_before (below level t) p rest) (omega arith)
              ∙ ap (λ (z : List ℕ). take j row ++ z) (sym (before_on p y (below level t) rest (sym w.1 ∙ low)) ∙ ap (put_before (below level t) p) (sym w.2))
              ∙ g.is;
        }

    pub sink-stop : v ≡ true → (p < process_limit → Turns (λ t. with_order t (set t.order j p)) b d) → p < process_limit → Turns (λ t. with_order t (sunk (below level t) p i t.order)) a d
    unfolding Sinks Turns
    sink-stop passes put hp t st =
        let g = r hp t st in
        let row : List ℕ = g.row in
        let long : length row ≡ process_limit = g.stands.held.places in
        let w = seen t g in
        let is : set row j p ≡ sunk (below level t) p i t.order =
        sym (stored row j p (omega arith))
        ∙ ap (λ (z : List ℕ). take j row ++ z)
        (ap (λ (z : List ℕ). p ∷ z) w.2 ∙ sym (before_here p y (below level t) (drop (j + 1 + 1) row) (sym w.1 ∙ passes)) ∙ ap (put_before (below level t) p) (sym w.2))
        ∙ g.is in
        subst (λ (z : List ℕ). Stands (with_order t z) d) is (put hp (with_order t row) g.stands)

  pub sink-end : {k : ℕ} → k + 1 ≡ process_limit → j ≡ k → (p < process_limit → Turns (λ t. with_order t (set t.order k p)) b d) → p < process_limit → Turns (λ t. with_order t (sunk (below level t) p i t.order)) a d
  unfolding Sinks Turns
  sink-end {k} h e put hp t st =
      let g = r hp t st in
      let row : List ℕ = g.row in
      let long : length row ≡ process_limit = g.stands.held.places in
      let last : drop (j + 1) row ≡ [] = ended row j (omega arith) in
      let is : set row k p ≡ sunk (below level t) p i t.order =
      ap (λ (z : ℕ). set row z p) (sym e) ∙ sym (stored row j p (omega arith))
      ∙ ap (λ (z : List ℕ). take j row ++ z) (ap (λ (z : List ℕ). p ∷ z) last ∙ sym (before-none (below level t) p) ∙ ap (put_before (below level t) p) (sym last))
      ∙ g.is in
      subst (λ (z : List ℕ). Stands (with_order t z) d) is (put hp (with_order t row) g.stands)

-- Where a search ends

-- what a search finds, with the length for none
found-there : (test : ℕ → Bool) (xs : List ℕ) (o : Option ℕ) (n i : ℕ) → length xs ≡ n → o ≡ position test xs → i ≡ unwrap_or o n → i ≡ position_or_len test xs
found-there test xs o n i l e u =
    u ∙ ap (λ (z : Option ℕ). unwrap_or z n) e
    ∙ below? (position_or_len test xs) (length xs)
    (λ h. rw (lt-ltb (position_or_len test xs) (length xs) h) refl)
    (λ h. let none : n ≡ position_or_len test xs = omega (arith, l, h, prefix_len-le-length (λ x. not (test x)) xs) in rw (le-ltb (position_or_len test xs) (length xs) h) none)

-- of a search in the row but for its last place
pub found-within : (test : ℕ → Bool) (row : List ℕ) (o : Option ℕ) (i : ℕ) → length row ≡ process_limit → o ≡ position test (take (process_limit - 1) row) → i ≡ unwrap_or o (process_limit - 1) → i ≤ process_limit - 1
found-within test row o i l e u =
    let part : List ℕ = take (process_limit - 1) row in
    let long : length part ≡ process_limit - 1 = omega (arith, length-take (process_limit - 1) row, l) in
    omega (arith, long, found-there test part o (process_limit - 1) i long e u, prefix_len-le-length (λ x. not (test x)) part)

-- the same place by a test that agrees on the entries
same-there : (f g : ℕ → Bool) (xs : List ℕ) → ((k : ℕ) → k < length xs → f (get_or xs k 0) ≡ g (get_or xs k 0)) → position_or_len f xs ≡ position_or_len g xs
same-there f g [] e = refl
same-there f g (x ∷ xs) e = rw (e 0 (omega arith)) (ap (λ (n : ℕ). cond (not (g x)) (1 + n) 0) (same-there f g xs (λ k h. e (suc k) (omega arith))))

-- The whole move

-- a place found by a search for p or one that passes, in a row but for its last place
spotted : (test : ℕ → Bool) (p n : ℕ) (xs : List ℕ) → length xs ≡ suc n → (i : ℕ) → i ≡ position_or_len (λ q. eqb q p || test q) (take n xs)
    → (get_or xs i 0 ≡ p → sunk test p i xs ≡ place test p xs) × ((get_or xs i 0 ≡ p → ⊥) → risen p i xs ≡ place test p xs)
unfolding place take_out put_before
spotted test p n [] l i e = absurd (omega (arith, l))
spotted test p zero (x ∷ []) l i e = rw e (λ q. refl, λ q. refl)
spotted test p (suc n) (x ∷ []) l i e = absurd (omega (arith, l))
spotted test p zero (x ∷ y ∷ ys) l i e = absurd (omega (arith, l))
spotted test p (suc n) (x ∷ y ∷ ys) l i e =
    let k : ℕ = position_or_len (λ q. eqb q p || test q) (take n (y ∷ ys)) in
    let rest = spotted test p n (y ∷ ys) (omega (arith, l)) k refl in
    let more : 1 + k ≡ suc k = omega arith in
    either x p
    (λ s. let first : i ≡ 0 = e ∙ rw (eq-eqb x p s) refl in rw first (λ q. rw (eq-eqb x p s) refl, λ q. absurd (q s)))
    (λ o. split (test x)
    (λ v. let first : i ≡ 0 = e ∙ rw (ne_eqb x p o, v) refl in rw first (λ q. absurd (o q), λ q. rw (ne_eqb x p o, v) refl))
    (λ v.
    let later : i ≡ suc k = e ∙ rw (ne_eqb x p o, v) more in
    rw later (λ q. rw (ne_eqb x p o, v, add-one) (ap (λ (z : List ℕ). x ∷ z) (rw add-one at (rest.0 q))), λ q. rw (ne_eqb x p o, v) (ap (λ (z : List ℕ). x ∷ z) (rest.1 q)))))

pub spot-spotted : (level p i : ℕ) (bs row : List ℕ) (o : Option ℕ) → Tells (λ t. t.order) bs row → length row ≡ process_limit → o ≡ position (λ q. eqb q p || low level (process_at bs q)) (take (process_limit - 1) row)
    → i ≡ unwrap_or o (process_limit - 1) → (i < process_limit) × Spotted p level i bs
unfolding Spotted Tells
spot-spotted level p i bs row o told l e u = (omega (arith, found-within (λ q. eqb q p || low level (process_at bs q)) row o i l e u), there)
  where
    there : (t : Tables) → Stands t bs → (get_or t.order i 0 ≡ p → sunk (below level t) p i t.order ≡ place (below level t) p t.order) × ((get_or t.order i 0 ≡ p → ⊥) → risen p i t.order ≡ place (below level t) p t.order)
    there t st =
        let others : List ℕ = take (process_limit - 1) t.order in
        let long : length others ≡ process_limit - 1 = omega (arith, length-take (process_limit - 1) t.order, st.held.places) in
        let small : (k : ℕ) → k < length others → get_or others k 0 < process_limit = λ k h. rw (get_or-take (process_limit - 1) t.order k 0 (omega (arith, h, long))) (st.held.row k (omega (arith, h, long))) in
        spotted (below level t) p (process_limit - 1) t.order st.held.places i
        (found-there (λ q. eqb q p || low level (process_at bs q)) others o (process_limit - 1) i long (e ∙ ap (λ (z : List ℕ). position (λ q. eqb q p || low level (process_at bs q)) (take (process_limit - 1) z)) (told t st)) u
        ∙ same-there (λ q. eqb q p || low level (process_at bs q)) (λ q. eqb q p || below level t q) others (λ k h. ap (λ (x : Process). eqb (get_or others k 0) p || low level x) (process-read t bs st (get_or others k 0) (small k h))))

module _ (p level i q : ℕ) (a b : List ℕ) (s : Spotted p level i a) (at : Tells (λ t. get_or t.order i 0) a q) where
  pub moved_down : q ≡ p → (p < process_limit → Turns (λ t. with_order t (sunk (below level t) p i t.order)) a b) → p < process_limit → Turns (placed p level) a b
  unfolding Turns Spotted Tells
  moved_down e f h t st = subst (λ (z : List ℕ). Stands (with_order t z) b) ((s t st).0 (sym (at t st) ∙ e)) (f h t st)

  pub moved_up : (q ≡ p → ⊥) → (p < process_limit → Turns (λ t. with_order t (risen p i t.order)) a b) → p < process_limit → Turns (placed p level) a b
  unfolding Turns Spotted Tells
  moved_up e f h t st = subst (λ (z : List ℕ). Stands (with_order t z) b) ((s t st).1 (λ z. e (at t st ∙ z))) (f h t st)

-- nobody is below level 0
none-low : (x : Process) → low 0 x ≡ false
none-low x = split (is_ready x.state) (λ e. rw (e, le-ltb x.priority 0 (omega arith)) refl) (λ e. rw e refl)

none-before : (t : Tables) (p : ℕ) (xs : List ℕ) → put_before (below 0 t) p xs ≡ xs ++ p ∷ []
unfolding put_before
none-before t p [] = refl
none-before t p (x ∷ xs) = rw (none-low (process t x)) (ap (λ (z : List ℕ). x ∷ z) (none-before t p xs))

pub moved-last : (p : ℕ) (a b : List ℕ) → (p < process_limit → Turns (placed p 0) a b) → p < process_limit → Turns (λ t. with_order t (put_last p t.order)) a b
unfolding Turns place
moved-last p a b f h t st = subst (λ (z : List ℕ). Stands (with_order t z) b) (none-before t p (take_out p t.order)) (f h t st)
