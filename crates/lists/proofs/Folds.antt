-- A fold, turn by turn, and parts of a list as chains read them. Assumes nothing.
use Rattle.std.proofs.Common.{ℕ, ◌+◌, ◌-◌, ◌≤◌, ◌<◌, ◌≡◌, ◌∙◌, Bool, true, ◌&&◌, List, [], ◌∷◌, sym, arith, get_or, length, drop, slice_range, subst}
use native.Mathlib.Numerals.{add-one}
use mathlib.Core.Path.{refl}
use denote.Param.Members.{Mut}
use native.Mathlib.Nat.{zero-add}
use Rattle.std.specs.List.{FoldsTo, enumerate_from, fold, zip}
use Rattle.std.proofs.lemmas.List.FromFn.{get_or-enumerate_from, length-enumerate_from}
use Rattle.std.proofs.lemmas.Slice.Zip.{get_or-zip, length-zip}
use Rattle.std.specs.Fn.{Called}
use Rattle.std.specs.Iterator.{Drains}
use Rattle.std.specs.declared.option.Option.{Option}
use Rattle.std.proofs.lemmas.Iterator.{YieldsList}
use Rattle.std.proofs.lemmas.Iterator.Consumers.{fold_from_yields_List}
use Rattle.std.proofs.lemmas.List.{get_or-drop, get_or-take, length-drop, length-take-le}
use Rattle.lists.specs.Numbers.{all}
use Rattle.lists.proofs.NumberLaws.{all-next, all_none}

-- what each turn keeps, by how many entries have passed, holds at the end
fold-turns : {B C : Type 0} (h : C → B → C) (z : B) (P : ℕ → C → Type 0) (xs : List B) → ((i : ℕ) (a : C) → i < length xs → P i a → P (i + 1) (h a (get_or xs i z))) → (a : C) → P 0 a → P (length xs) (fold h a xs)
fold-turns h z P [] step a p = p
fold-turns h z P (x ∷ xs) step a p =
    let e : length xs + 1 ≡ length (x ∷ xs) = omega arith in
    subst (λ (n : ℕ). P n (fold h (h a x) xs)) e (fold-turns h z (λ i. P (i + 1)) xs (λ i b l q. rw (at i) at (step (i + 1) b (omega arith) q)) (h a x) (step 0 a (omega arith) p))
  where
    at : (i : ℕ) → get_or (x ∷ xs) (i + 1) z ≡ get_or xs i z
    at i = rw add-one refl

module _ {S A B C F : Type 0} {steps : S → Option A → S → Type 0} {v : A → B} {s : S} {xs : List B} {g : Mut F (C × (A × Unit {0})) C} {f : F} {init r : C}
    (ran : (ys : List A) × (q : F) × Drains steps s ys × FoldsTo {P = F × C} (λ a x b. Called g a.0 (a.1, (x, tt)) b.1 b.0) (f, init) ys (q, r)) (from : YieldsList steps v s xs) (h : C → B → C)
    (told : (a : C) (x : A) (b : C) (q : F) → Called g f (a, (x, tt)) b q → (q ≡ f) × (b ≡ h a (v x))) (n : ℕ) (long : length xs ≡ n) (z : B) where
  pub folded : (P : ℕ → C → Type 0) → ((i : ℕ) (a : C) → i < n → P i a → P (i + 1) (h a (get_or xs i z))) → P 0 init → P n r
  folded P step p = rw (fold_from_yields_List g h init r ran from told, sym long) (fold-turns h z P xs (λ i a l. step i a (omega arith)) init p)

-- tests joined by `and` are the test of all
pub folded-all : {S A B F : Type 0} {steps : S → Option A → S → Type 0} {v : A → B} {s : S} {xs : List B} {g : Mut F (Bool × (A × Unit {0})) Bool} {f : F} {r : Bool}
    → (ys : List A) × (q : F) × Drains steps s ys × FoldsTo {P = F × Bool} (λ a x b. Called g a.0 (a.1, (x, tt)) b.1 b.0) (f, true) ys (q, r) → YieldsList steps v s xs → (test : B → Bool)
    → ((a : Bool) (x : A) (b : Bool) (q : F) → Called g f (a, (x, tt)) b q → (q ≡ f) × (b ≡ (a && test (v x)))) → (n : ℕ) → length xs ≡ n → (z : B) (all_of : ℕ → Bool) → ((i : ℕ) → i < n → test (get_or xs i z) ≡ all_of i) → r ≡ all n all_of
folded-all ran from test told n long z all_of same =
    folded ran from (λ ok x. ok && test x) told n long z (λ i ok. ok ≡ all i all_of) (λ i ok l e. all-next all_of i ok _ e (same i l)) (sym (all_none all_of))

-- A part of a list

pub part-at : (xs : List ℕ) (from to i : ℕ) → i < to - from → get_or (slice_range xs from to) i 0 ≡ get_or xs (from + i) 0
part-at xs from to i h = get_or-take (to - from) (drop from xs) i 0 h ∙ get_or-drop from xs i 0

pub part-long : (xs : List ℕ) (from to : ℕ) → to ≤ length xs → length (slice_range xs from to) ≡ to - from
part-long xs from to h = length-take-le (to - from) (drop from xs) (let l = length-drop from xs in omega arith)

-- two parts of a list, of one length, side by side
module _ (xs : List ℕ) (a b c d n : ℕ) (first : b - a ≡ n) (second : d - c ≡ n) where
  pub parts-long : b ≤ length xs → d ≤ length xs → length (zip (slice_range xs a b) (slice_range xs c d)) ≡ n
  parts-long h k =
      let p = part-long xs a b h in
      let q = part-long xs c d k in
      length-zip (slice_range xs a b) (slice_range xs c d) ∙ omega arith

  pub parts-at : b ≤ length xs → d ≤ length xs → (i : ℕ) → i < n → get_or (zip (slice_range xs a b) (slice_range xs c d)) i (0, 0) ≡ (get_or xs (a + i) 0, get_or xs (c + i) 0)
  parts-at h k i l =
      let p = part-long xs a b h in
      let q = part-long xs c d k in
      get_or-zip (slice_range xs a b) (slice_range xs c d) i (0, 0) (omega arith) (omega arith) ∙ rw (part-at xs a b i (omega arith), part-at xs c d i (omega arith)) refl

  -- and numbered
  pub numbered-long : b ≤ length xs → d ≤ length xs → length (enumerate_from 0 (zip (slice_range xs a b) (slice_range xs c d))) ≡ n
  numbered-long h k = length-enumerate_from 0 (zip (slice_range xs a b) (slice_range xs c d)) ∙ parts-long h k

  pub numbered-at : b ≤ length xs → d ≤ length xs → (i : ℕ) → i < n → get_or (enumerate_from 0 (zip (slice_range xs a b) (slice_range xs c d))) i (0, (0, 0)) ≡ (i, (get_or xs (a + i) 0, get_or xs (c + i) 0))
  numbered-at h k i l =
      let p = parts-long h k in
      get_or-enumerate_from 0 (zip (slice_range xs a b) (slice_range xs c d)) i (0, (0, 0)) (omega arith) ∙ rw (zero-add i, parts-at h k i l) refl
