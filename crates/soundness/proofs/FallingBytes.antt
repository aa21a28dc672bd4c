-- A turn of the walk along the ready list. Assumes nothing.
use Prim.Native.Nat.{◌+◌, ◌-◌, ◌<◌, ◌≤◌, ℕ}
use native.Mathlib.Omega.{arith}
use mathlib.Core.Bool.{Bool, false, true}
use mathlib.Core.List.{List, ◌∷◌}
use mathlib.Core.Path.{◌∙◌, ◌≡◌, ap, refl, subst}
use lib.Dec.{eqb}
use lib.ListN.{drop, get_or, length}
use borrow.Author.Tests.{eq-eqb, ne_eqb}
use Rattle.layout.specs.Bytes.{from_bytes}
use Rattle.layout.specs.Offsets.{order_at, priorities_at, states_at}
use Rattle.lists.specs.Lists.{falls, filter}
use Rattle.tables.specs.Limits.{process_limit}
use Rattle.tables.specs.Readers.{line, priority_of, ready_list, state_of}
use Rattle.tables.specs.States.{is_ready}
use Rattle.layout.proofs.Image.{order-long, place-said, priority-said, state-said}
use Rattle.lists.proofs.Bools.{either}
use Rattle.lists.proofs.Walks.{falls-none, falls-on, falls-stop, filter-done, filter-in, filter-over}
use Rattle.soundness.specs.Keys.{key_of, latest_of}
use Rattle.soundness.proofs.StateBytes.{ready-byte}

-- the ready ones of those in a row
abbrev ready : List ℕ → List ℕ → List ℕ
ready bs = filter (λ p. is_ready (state_of (from_bytes bs) p))

-- what is left of the test of the ready list from place i on
abbrev pub left : List ℕ → ℕ → ℕ → Bool
left bs last i = falls (priority_of (from_bytes bs)) last (ready bs (drop i (from_bytes bs).order))

pub left-none : (bs : List ℕ) (last i : ℕ) → process_limit ≤ i → left bs last i ≡ true
left-none bs last i h =
    ap (falls (priority_of (from_bytes bs)) last) (filter-done (λ p. is_ready (state_of (from_bytes bs) p)) (from_bytes bs).order i (rw (order-long bs) h))
    ∙ falls-none (priority_of (from_bytes bs)) last

pub left-all : (bs : List ℕ) (top : ℕ) → left bs top 0 ≡ falls (priority_of (from_bytes bs)) top (ready_list (from_bytes bs))
unfolding line
left-all bs top = refl

module _ (bs : List ℕ) (named : (i : ℕ) → i < process_limit → get_or bs (order_at + i) 0 < process_limit) where
  module _ (i p : ℕ) (h : i < process_limit) (at : get_or bs (order_at + i) 0 ≡ p) where
    below : p < process_limit
    below = subst (λ (q : ℕ). q < process_limit) at (named i h)

    here : get_or (from_bytes bs).order i 0 ≡ p
    here = place-said bs i h ∙ at

    long : i < length (from_bytes bs).order
    long = rw (order-long bs) (omega arith)

    test : is_ready (state_of (from_bytes bs) (get_or (from_bytes bs).order i 0)) ≡ eqb (get_or bs (states_at + p) 0) 2
    test = rw here (ap is_ready (state-said bs p below) ∙ ready-byte (get_or bs (states_at + p) 0))

    priority : priority_of (from_bytes bs) (get_or (from_bytes bs).order i 0) ≡ get_or bs (priorities_at + p) 0
    priority = rw here (priority-said bs p below)

    met : (last : ℕ) → get_or bs (states_at + p) 0 ≡ 2 → left bs last i ≡ falls (priority_of (from_bytes bs)) last (get_or (from_bytes bs).order i 0 ∷ ready bs (drop (i + 1) (from_bytes bs).order))
    met last e =
        ap (falls (priority_of (from_bytes bs)) last)
        (filter-in (λ p. is_ready (state_of (from_bytes bs) p)) (from_bytes bs).order i long (test ∙ eq-eqb (get_or bs (states_at + p) 0) 2 e))

    left-stop : (last : ℕ) → get_or bs (states_at + p) 0 ≡ 2 → last < get_or bs (priorities_at + p) 0 → left bs last i ≡ false
    left-stop last e r = met last e ∙ falls-stop (priority_of (from_bytes bs)) last (get_or (from_bytes bs).order i 0) _ (rw priority r)

    left-on : (last : ℕ) → get_or bs (states_at + p) 0 ≡ 2 → get_or bs (priorities_at + p) 0 ≤ last → left bs last i ≡ left bs (get_or bs (priorities_at + p) 0) (i + 1)
    left-on last e r = met last e ∙ falls-on (priority_of (from_bytes bs)) last (get_or (from_bytes bs).order i 0) _ (rw priority r) ∙ ap (λ (n : ℕ). left bs n (i + 1)) priority

    left_over : (last : ℕ) → (get_or bs (states_at + p) 0 ≡ 2 → ⊥) → left bs last i ≡ left bs last (i + 1)
    left_over last e =
        ap (falls (priority_of (from_bytes bs)) last)
        (filter-over (λ p. is_ready (state_of (from_bytes bs) p)) (from_bytes bs).order i long (test ∙ ne_eqb (get_or bs (states_at + p) 0) 2 e))

    module _ (last v : ℕ) (is : v ≡ key_of bs p) (some : 0 < last) where
      ready-key : get_or bs (states_at + p) 0 ≡ 2 → v ≡ get_or bs (priorities_at + p) 0 + 1
      ready-key e = rw (eq-eqb (get_or bs (states_at + p) 0) 2 e) at is

      no_key : (get_or bs (states_at + p) 0 ≡ 2 → ⊥) → v ≡ 0
      no_key d = rw (ne_eqb (get_or bs (states_at + p) 0) 2 d) at is

      pub key-stop : last < v → left bs (last - 1) i ≡ false
      key-stop r =
          either (get_or bs (states_at + p) 0) 2
          (λ e. let k = ready-key e in left-stop (last - 1) e (omega arith))
          (λ d. let k = no_key d in absurd (omega arith))

      pub key-on : v ≤ last → left bs (last - 1) i ≡ left bs (latest_of last v - 1) (i + 1)
      key-on r =
          either (get_or bs (states_at + p) 0) 2
          (λ e.
          let k = ready-key e in
          let q : v - 1 ≡ get_or bs (priorities_at + p) 0 = omega arith in
          rw (ne_eqb v 0 (omega arith), q) (left-on (last - 1) e (omega arith)))
          (λ d. rw (eq-eqb v 0 (no_key d)) (left_over (last - 1) d))

      pub key-some : 0 < latest_of last v
      key-some = either v 0 (λ e. rw (eq-eqb v 0 e) some) (λ d. rw (ne_eqb v 0 d) (omega arith))
