-- Laws of the lists that the rules are written with. Assumes nothing.
use Rattle.std.specs.Prelude.{if◌then◌else◌}
use Prim.Native.Nat.{◌+◌, ◌≤◌, min, suc, ℕ}
use native.Mathlib.Nat.{min-eq_left, min-eq_right, min-le_right}
use native.Mathlib.Omega.{arith}
use mathlib.Core.Path.{◌∙◌, ◌≡◌, ap, fun_ext, refl, sym}
use mathlib.Core.Logic.{◌≢◌}
use mathlib.Core.Bool.{Bool, ◌&&◌, ◌||◌, false, not, true, and-true}
use mathlib.Core.List.{List, [], ◌++◌, ◌∷◌, cons≢nil}
use lib.Dec.{eqb}
use lib.ListN.{length, length-take, replicate, take}
use lib.Seq.{take_all}
use borrow.Author.Tests.{eq-eqb, eqb-false, eqb-true, ne_eqb}
use Rattle.lists.specs.Lists.{filter, place, put_before, take_out, times, without}
use Rattle.lists.proofs.Bools.{below?, either, split}

-- filter

pub filter-if : (f : ℕ → Bool) (b : Bool) (x : ℕ) (ys : List ℕ) → filter f (if b then x ∷ ys else ys) ≡ (if b && f x then x ∷ filter f ys else filter f ys)
unfolding filter
filter-if f true x ys = refl
filter-if f false x ys = refl

pub filter-filter : (f g : ℕ → Bool) (xs : List ℕ) → filter f (filter g xs) ≡ filter (λ x. g x && f x) xs
unfolding filter
filter-filter f g [] = refl
filter-filter f g (x ∷ xs) = filter-if f (g x) x (filter g xs) ∙ ap (λ (l : List ℕ). if g x && f x then x ∷ l else l) (filter-filter f g xs)

pub filter-ext : {f g : ℕ → Bool} (xs : List ℕ) → ((x : ℕ) → f x ≡ g x) → filter f xs ≡ filter g xs
filter-ext xs h = ap (λ (k : ℕ → Bool). filter k xs) (fun_ext h)

-- where f and g differ only at p, where f is false, f's entries are g's without p
pub filter-leave : (f g : ℕ → Bool) (p : ℕ) (xs : List ℕ) → ((x : ℕ) → f x ≡ (g x && not (eqb x p))) → filter f xs ≡ without p (filter g xs)
unfolding without
filter-leave f g p xs h = filter-ext xs h ∙ sym (filter-filter (λ x. not (eqb x p)) g xs)

-- where f and g differ only at p, f's entries of a list without p are g's without p
pub filter-without : (f g : ℕ → Bool) (p : ℕ) (xs : List ℕ) → ((x : ℕ) → (not (eqb x p) && f x) ≡ (g x && not (eqb x p))) → filter f (without p xs) ≡ without p (filter g xs)
unfolding without
filter-without f g p xs h = filter-filter f (λ x. not (eqb x p)) xs ∙ filter-ext xs h ∙ sym (filter-filter (λ x. not (eqb x p)) g xs)

-- p isn't there
pub without-absent : (f : ℕ → Bool) (p : ℕ) (xs : List ℕ) → f p ≡ false → without p (filter f xs) ≡ filter f xs
unfolding without
without-absent f p xs h =
    filter-filter (λ x. not (eqb x p)) f xs ∙ filter-ext xs (λ x. either x p (λ e. rw (e, h)) (λ d. rw (ne_eqb x p d) (and-true (f x))))

-- put_before

pub filter-put_before-no : (f test : ℕ → Bool) (p : ℕ) (xs : List ℕ) → f p ≡ false → filter f (put_before test p xs) ≡ filter f xs
unfolding filter put_before
filter-put_before-no f test p [] h = rw h
filter-put_before-no f test p (x ∷ xs) h = let ih = filter-put_before-no f test p xs h in split (test x) (λ e. rw (e, h)) (λ e. rw (e, ih))

pub filter-put_before-yes : (f test low : ℕ → Bool) (p : ℕ) (xs : List ℕ) → f p ≡ true → ((x : ℕ) → test x ≡ (f x && low x)) → filter f (put_before test p xs) ≡ put_before low p (filter f xs)
unfolding filter put_before
filter-put_before-yes f test low p [] h k = rw h
filter-put_before-yes f test low p (x ∷ xs) h k =
    let ih = filter-put_before-yes f test low p xs h k in
    rw k (split (f x) (λ e. rw e (split (low x) (λ d. rw (d, h, e)) (λ d. rw (d, e, ih)))) (λ e. rw (e, ih, e)))

pub put_before-last : (p : ℕ) (xs : List ℕ) → put_before (λ x. false) p xs ≡ xs ++ p ∷ []
unfolding put_before
put_before-last p [] = refl
put_before-last p (x ∷ xs) = ap (λ (l : List ℕ). x ∷ l) (put_before-last p xs)

-- times

pub times-cons : (p x : ℕ) (xs : List ℕ) → times p (x ∷ xs) ≡ (if eqb x p then 1 else 0) + times p xs
unfolding times
times-cons p x xs = split (eqb x p) (λ e. rw e (omega arith)) (λ e. rw e (omega arith))

pub times-append : (x : ℕ) (xs ys : List ℕ) → times x (xs ++ ys) ≡ times x xs + times x ys
unfolding times
times-append x [] ys = omega arith
times-append x (y ∷ xs) ys = let e = times-append x xs ys in split (eqb y x) (λ q. rw q (omega arith)) (λ q. rw q e)

pub times-put_before : (q : ℕ) (test : ℕ → Bool) (p : ℕ) (xs : List ℕ) → times q (put_before test p xs) ≡ times q (p ∷ xs)
unfolding put_before
times-put_before q test p [] = refl
times-put_before q test p (x ∷ xs) =
    let ih = times-put_before q test p xs in
    split (test x) (λ e. rw e) (λ e. rw e (simp (times-cons, ih) (omega arith)))

pub times-filter : (q : ℕ) (f : ℕ → Bool) (xs : List ℕ) → times q (filter f xs) ≡ (if f q then times q xs else 0)
unfolding times filter
times-filter q f [] = split (f q) (λ e. rw e) (λ e. rw e)
times-filter q f (x ∷ xs) =
    let ih = times-filter q f xs in
    either x q
    (λ d. split (f q) (λ e. rw (d, e, eq-eqb q q refl) (ap suc (rw e at ih))) (λ e. rw (d, e) (rw e at ih)))
    (λ d. split (f x) (λ e. rw (e, ne_eqb x q d) ih) (λ e. rw (e, ne_eqb x q d) ih))

pub without-none : (p : ℕ) (xs : List ℕ) → times p xs ≡ 0 → without p xs ≡ xs
unfolding without filter times
without-none p [] h = refl
without-none p (x ∷ xs) h =
    split (eqb x p) (λ e. let k = rw e at h in absurd (omega arith)) (λ e. rw e (ap (λ (l : List ℕ). x ∷ l) (without-none p xs (rw e at h))))

-- taken out where it stands once
take_out-is : (p : ℕ) (xs : List ℕ) → times p xs ≡ 1 → take_out p xs ≡ without p xs
unfolding take_out without filter times
take_out-is p [] h = absurd (omega arith)
take_out-is p (x ∷ []) h = split (eqb x p) (λ e. rw e) (λ e. let k = rw e at h in absurd (omega arith))
take_out-is p (x ∷ y ∷ ys) h =
    split (eqb x p)
    (λ e. let k = rw e at h in rw e (sym (without-none p (y ∷ ys) (omega arith))))
    (λ e. rw e (ap (λ (l : List ℕ). x ∷ l) (take_out-is p (y ∷ ys) (rw e at h))))

pub place_is : (test : ℕ → Bool) (p : ℕ) (xs : List ℕ) → times p xs ≡ 1 → place test p xs ≡ put_before test p (without p xs)
unfolding place
place_is test p xs h = ap (put_before test p) (take_out-is p xs h)

-- a list in which p stands once has it once wherever it is placed, and everybody else as often as before
pub times-place : (q : ℕ) (test : ℕ → Bool) (p : ℕ) (xs : List ℕ) → times p xs ≡ 1 → times q (place test p xs) ≡ times q xs
unfolding without times
times-place q test p xs h =
    ap (times q) (place_is test p xs h) ∙ times-put_before q test p (without p xs)
    ∙ rw (times-filter q (λ x. not (eqb x p)) xs) (either p q (λ e. rw (← e, eq-eqb p p refl) (sym h)) (λ d. rw (ne_eqb p q d, ne_eqb q p (λ k. d (sym k)))))

-- the entries equal to p
pub filter-equal : (p : ℕ) (xs : List ℕ) → filter (λ x. eqb x p) xs ≡ replicate (times p xs) p
unfolding filter times
filter-equal p [] = refl
filter-equal p (x ∷ xs) = let ih = filter-equal p xs in split (eqb x p) (λ e. rw (e, ih, eqb-true x p e)) (λ e. rw e ih)

pub filter-only : (p : ℕ) (xs : List ℕ) → times p xs ≡ 1 → filter (λ x. eqb x p) xs ≡ p ∷ []
filter-only p xs h = rw (filter-equal p xs, h)

pub filter_none : (f g : ℕ → Bool) (xs : List ℕ) → filter f xs ≡ [] → filter (λ x. g x || f x) xs ≡ filter g xs
unfolding filter
filter_none f g [] h = refl
filter_none f g (x ∷ xs) h =
    split (f x) (λ e. absurd (cons≢nil (rw e at h)))
    (λ e. let ih = filter_none f g xs (rw e at h) in split (g x) (λ d. rw (d, ih)) (λ d. rw (d, e, ih)))

pub filter-no : (f : ℕ → Bool) (xs : List ℕ) → ((x : ℕ) → f x ≡ false) → filter f xs ≡ []
unfolding filter
filter-no f [] h = refl
filter-no f (x ∷ xs) h = rw h (filter-no f xs h)

-- an entry of a filtered list passes the test
pub passes : (f : ℕ → Bool) (xs : List ℕ) (x : ℕ) → 1 ≤ times x (filter f xs) → f x ≡ true
passes f xs x h = split (f x) (λ e. e) (λ e. let k = rw (times-filter x f xs, e) at h in absurd (omega arith))

pub first_passes : (f : ℕ → Bool) (xs ys : List ℕ) (x : ℕ) → filter f xs ≡ x ∷ ys → f x ≡ true
unfolding times
first_passes f xs ys x h = passes f xs x (rw (h, eq-eqb x x refl) (omega arith))

pub length-split : (f : ℕ → Bool) (xs : List ℕ) → length (filter f xs) + length (filter (λ x. not (f x)) xs) ≡ length xs
unfolding filter
length-split f [] = refl
length-split f (x ∷ xs) = let ih = length-split f xs in split (f x) (λ e. rw e (omega arith)) (λ e. rw e (omega arith))

pub length_without : (p : ℕ) (xs : List ℕ) → times p xs ≡ 1 → suc (length (without p xs)) ≡ length xs
unfolding without
length_without p xs h =
    let e : length (filter (λ x. eqb x p) xs) ≡ 1 = ap length (filter-only p xs h) in
    omega (arith, length-split (λ x. eqb x p) xs)

pub times-length : (p : ℕ) (xs : List ℕ) → times p xs ≤ length xs
unfolding times
times-length p [] = omega arith
times-length p (x ∷ xs) = let ih = times-length p xs in split (eqb x p) (λ e. rw e (omega arith)) (λ e. rw e (omega arith))

pub put_before-some : (test : ℕ → Bool) (p : ℕ) (xs : List ℕ) → put_before test p xs ≢ []
unfolding put_before
put_before-some test p [] h = cons≢nil h
put_before-some test p (x ∷ xs) h = split (test x) (λ e. cons≢nil (rw e at h)) (λ e. cons≢nil (rw e at h))

pub without-only : (p : ℕ) → without p (p ∷ []) ≡ []
unfolding without filter
without-only p = rw (eq-eqb p p refl)

pub one-or-none : (c : ℕ) (cs : List ℕ) → length (c ∷ cs) ≤ 1 → cs ≡ []
one-or-none c [] h = refl
one-or-none c (x ∷ xs) h = absurd (omega arith)

pub length-put_before : (test : ℕ → Bool) (p : ℕ) (xs : List ℕ) → length (put_before test p xs) ≡ suc (length xs)
unfolding put_before
length-put_before test p [] = refl
length-put_before test p (x ∷ xs) = let ih = length-put_before test p xs in split (test x) (λ e. rw e) (λ e. rw (e, ih))

pub length-place : (test : ℕ → Bool) (p : ℕ) (xs : List ℕ) → times p xs ≡ 1 → length (place test p xs) ≡ length xs
length-place test p xs h = ap length (place_is test p xs h) ∙ length-put_before test p (without p xs) ∙ length_without p xs h

pub without-first : (p : ℕ) (ps : List ℕ) → times p (p ∷ ps) ≡ 1 → without p (p ∷ ps) ≡ ps
unfolding without filter times
without-first p ps h =
    let e : suc (times p ps) ≡ 1 = rw (eq-eqb p p refl) at h in
    rw (eq-eqb p p refl) (without-none p ps (omega arith))

pub times-only : (p c : ℕ) → times p (c ∷ []) ≡ 1 → c ≡ p
unfolding times
times-only p c h = split (eqb c p) (eqb-true c p) (λ e. let k = rw e at h in absurd (omega arith))

pub times-empty : (p : ℕ) (xs : List ℕ) → times p xs ≡ 1 → xs ≡ [] → ⊥
unfolding times
times-empty p xs h e = let k : times p xs ≡ 0 = ap (times p) e in omega arith

pub length-empty : (xs : List ℕ) → length xs ≡ 0 → xs ≡ []
length-empty [] h = refl
length-empty (x ∷ xs) h = absurd (omega arith)

-- only what stands in the list is tested
pub put_before-ext : (test test' : ℕ → Bool) (p : ℕ) (xs : List ℕ) → ((x : ℕ) → x ≢ p → test x ≡ test' x) → put_before test p (without p xs) ≡ put_before test' p (without p xs)
unfolding without filter put_before
put_before-ext test test' p [] h = refl
put_before-ext test test' p (x ∷ xs) h =
    let ih = put_before-ext test test' p xs h in
    split (eqb x p) (λ e. rw e ih) (λ e. rw (e, h x (eqb-false x p e), ih))

-- the first n, if there are so many
pub take-least : (n : ℕ) (xs : List ℕ) → take (min n (length xs)) xs ≡ take n xs
take-least n xs =
    below? n (length xs)
    (λ h. let k : n ≤ length xs = omega arith in rw (min-eq_left k))
    (λ h. rw (min-eq_right h, take_all (length xs) xs (omega arith), take_all n xs h))

pub least-long : (n : ℕ) (xs : List ℕ) → length (take (min n (length xs)) xs) ≡ min n (length xs)
least-long n xs = length-take (min n (length xs)) xs ∙ min-eq_left (min-le_right n (length xs))
