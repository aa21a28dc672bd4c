-- The calls by their numbers, and what stands before a call's own checks. Assumes nothing.
use Rattle.std.specs.Prelude.{Result, Ok, Err}
use Prim.Native.Nat.{ℕ, zero, suc, ◌≤◌, ◌<◌}
use native.Mathlib.Omega.{arith}
use mathlib.Core.Bool.{true, false}
use mathlib.Core.List.{List, [], ◌∷◌}
use mathlib.Core.Option.{Option, none, some}
use mathlib.Core.Path.{◌≡◌, refl}
use lib.IntN.{ℤ}
use lib.ListN.{length}
use Rattle.lists.proofs.Bools.{split}
use Rattle.tables.specs.declared.Tables.{Tables}
use Rattle.tables.specs.Readers.{current_of}
use Rattle.tables.specs.Sound.{Sound}
use Rattle.tables.specs.Test.{sound_now}
use Rattle.tables.proofs.TestLaws.{sound-checked}
use Rattle.rules.specs.declared.Call.{Call}
use Rattle.rules.specs.declared.Refusal.{Refusal}
use Rattle.rules.specs.declared.Outcome.{Outcome}
use Rattle.rules.specs.Answers.{refused, refusal_number}
use Rattle.rules.specs.Calls.{step}
use Rattle.rules.specs.Enter.{Form, forms, line_of, form_of, call_of, spare, read, Reads, called, numbered, enter}

-- past the end of the list there is no form
no_line : (fs : List Form) (n : ℕ) → length fs ≤ n → line_of fs n ≡ none
no_line [] n h = refl
no_line (f ∷ fs) zero h = absurd (omega arith)
no_line (f ∷ fs) (suc n) h = no_line fs n (omega arith)

pub number_past : (n : ℕ) → length forms < n → form_of n ≡ none
number_past zero h = refl
number_past (suc n) h = no_line forms n (omega arith)

-- a number from 1 to the end has one
a-line : (fs : List Form) (n : ℕ) → n < length fs → (f : Form) × (line_of fs n ≡ some f)
a-line [] n h = absurd (omega arith)
a-line (f ∷ fs) zero h = (f, refl)
a-line (f ∷ fs) (suc n) h = a-line fs n (omega arith)

pub number-known : (n : ℕ) → 1 ≤ n → n ≤ length forms → (f : Form) × (form_of n ≡ some f)
number-known zero l h = absurd (omega arith)
number-known (suc n) l h = a-line forms n (omega arith)

module _ (t : Tables) (a : ℤ) where
  -- a number without a form: 13, whatever the arguments
  pub number-unknown : (b : ℤ) (n : ℕ) → form_of n ≡ none → numbered t n a b ≡ refused 13 t
  unfolding numbered
  number-unknown b n e = rw e

  -- an argument that the call doesn't use isn't 0: 14, before the call's own checks
  pub number-spare : (b : ℤ) (n : ℕ) (f : Form) → form_of n ≡ some f → spare f a b ≡ true → numbered t n a b ≡ refused 14 t
  unfolding numbered
  number-spare b n f e k = rw (e, k)

  -- else the call
  pub number-goes : (b : ℤ) (n : ℕ) (f : Form) → form_of n ≡ some f → spare f a b ≡ false → numbered t n a b ≡ step t (call_of f a b)
  unfolding numbered
  number-goes b n f e k = rw (e, k)

  -- what a number is read as is what it comes to
  abbrev pub ReadAs : Result Call Refusal → Outcome
  ReadAs (Ok c) = step t c
  ReadAs (Err r) = refused (refusal_number r) t

  pub number-read : (b : ℤ) (n : ℕ) (r : Result Call Refusal) → Reads n a b r → numbered t n a b ≡ ReadAs r
  unfolding numbered
  number-read b n r k = rw k (go (form_of n))
    where
      go : (f : Option Form) → called t f a b ≡ ReadAs (read f a b)
      go none = refl
      go (some f) = split (spare f a b) (λ e. rw e refl) (λ e. rw e refl)

  -- sound tables are called so, and the process that runs then is told
  pub enter-sound : (b : ℤ) (n : ℕ) → Sound t → ((enter t n a b).outcome ≡ numbered t n a b) × ((enter t n a b).running ≡ current_of (numbered t n a b).tables)
  unfolding enter
  enter-sound b n S = rw (sound-checked S) (refl, refl)

  -- others: 15, nothing changes, and the running process is told as 255
  pub enter-unsound : (b : ℤ) (n : ℕ) → sound_now t ≡ false → ((enter t n a b).outcome ≡ refused 15 t) × ((enter t n a b).running ≡ 255)
  unfolding enter
  enter-unsound b n h = rw h (refl, refl)
