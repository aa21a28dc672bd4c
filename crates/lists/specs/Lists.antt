-- Words on lists, most of them of numbers. Each recursive call is bound before the choice, so that a run over 32 or 120 entries computes.
use Rattle.std.specs.Prelude.{if◌then◌else◌, ℕ, zero, suc, ◌+◌, ◌≤◌, Bool, true, false, not, ◌&&◌, List, [], ◌∷◌, eqb, leb, drop, take}

-- the entries that pass the test, in their order
unfoldable pub filter : (ℕ → Bool) → List ℕ → List ℕ
filter f [] = []
filter f (x ∷ xs) =
    let rest : List ℕ = filter f xs in
    if f x then x ∷ rest else rest

-- every p taken out
unfoldable pub without : ℕ → List ℕ → List ℕ
without p xs = filter (λ x. not (eqb x p)) xs

-- the first p taken out; where there is none, the last entry, so that one entry less is left of every list
unfoldable pub take_out : ℕ → List ℕ → List ℕ
take_out p [] = []
take_out p (x ∷ []) = []
take_out p (x ∷ y ∷ ys) =
    let later : List ℕ = x ∷ take_out p (y ∷ ys) in
    if eqb x p then y ∷ ys else later

-- p put before the first entry that passes the test, or last where none does
unfoldable pub put_before : (ℕ → Bool) → ℕ → List ℕ → List ℕ
put_before test p [] = p ∷ []
put_before test p (x ∷ xs) =
    let later : List ℕ = x ∷ put_before test p xs in
    if test x then p ∷ x ∷ xs else later

-- p taken out and put back so
unfoldable pub place : (ℕ → Bool) → ℕ → List ℕ → List ℕ
place test p xs = put_before test p (take_out p xs)

-- the place of p in a list, counted from 1; one past the last where it isn't there
unfoldable pub place_in : ℕ → List ℕ → ℕ
place_in p [] = 1
place_in p (x ∷ xs) =
    let later : ℕ = suc (place_in p xs) in
    if eqb x p then 1 else later

-- who stands at a place, counted from 1: nobody at 0 and past the last
abbrev pub at_place : ℕ → List ℕ → List ℕ
at_place zero xs = []
at_place (suc k) xs = take 1 (drop k xs)

-- how many times p stands in a list
unfoldable pub times : ℕ → List ℕ → ℕ
times p [] = 0
times p (x ∷ xs) =
    let rest : ℕ = times p xs in
    if eqb x p then suc rest else rest

-- the sum of w over the entries
unfoldable pub sum : (ℕ → ℕ) → List ℕ → ℕ
sum w [] = 0
sum w (x ∷ xs) = w x + sum w xs

unfoldable pub is_empty : List ℕ → Bool
is_empty [] = true
is_empty (x ∷ xs) = false

-- the first entry, or d where there is none
unfoldable pub first_or : ℕ → List ℕ → ℕ
first_or d [] = d
first_or d (x ∷ xs) = x

abbrev pub first : List ℕ → ℕ
first xs = first_or 0 xs

-- this is so of each entry
abbrev pub Each : {A : Type 0} → (A → Type 0) → List A → Type 0
Each P [] = Unit
Each P (x ∷ xs) = P x × Each P xs

-- no entry's rank is above n
abbrev pub AtMost : (ℕ → ℕ) → ℕ → List ℕ → Type 0
AtMost rank n xs = Each (λ x. rank x ≤ n) xs

-- nobody behind an entry has a higher rank
abbrev pub Falling : (ℕ → ℕ) → List ℕ → Type 0
Falling rank [] = Unit
Falling rank (x ∷ xs) = AtMost rank (rank x) xs × Falling rank xs

-- the test of both: no rank above n, and none above that of the entry before it
unfoldable pub falls : (ℕ → ℕ) → ℕ → List ℕ → Bool
falls rank n [] = true
falls rank n (x ∷ xs) = leb (rank x) n && falls rank (rank x) xs
