-- Tests of a state, as tests of its byte, and the current processes added up so. Assumes nothing.
use Prim.Native.Nat.{◌*◌, ◌+◌, ◌-◌, ◌<◌, ◌≤◌, ℕ}
use native.Mathlib.Omega.{arith}
use mathlib.Core.Bool.{Bool, true}
use mathlib.Core.List.{List}
use mathlib.Core.Path.{◌∙◌, ◌≡◌, ap, refl, sym}
use lib.Dec.{eqb}
use lib.ListN.{get_or}
use borrow.Author.Tests.{eq-eqb, lt-ltb, ne_eqb}
use Rattle.layout.specs.Bytes.{byte_state, from_bytes, waiting_from, well_formed}
use Rattle.layout.specs.Offsets.{states_at}
use Rattle.layout.specs.Stands.{Named}
use Rattle.lists.specs.Numbers.{all}
use Rattle.tables.specs.Limits.{process_limit, semaphore_limit}
use Rattle.tables.specs.Readers.{state_of}
use Rattle.tables.specs.States.{is_current, is_free, is_ready}
use Rattle.tables.specs.Test.{names_semaphore}
use Rattle.tables.specs.declared.State.{State}
use Rattle.tables.specs.declared.State.TheVariants.{Current, Free, Ready, Suspended, Waiting}
use Rattle.layout.proofs.Image.{formed-state, state-back, state-said}
use Rattle.layout.proofs.Readers.{byte-waiting}
use Rattle.lists.proofs.Bools.{either}
use Rattle.lists.proofs.NumberLaws.{all_true}
use Rattle.lists.proofs.Rows.{sum-no, sum-small, sum-yes}
use Rattle.soundness.specs.Sums.{sum_below}

-- a test of the state is a test of the byte, if it is so for the four plain states and for any waiting one
abbrev Agrees : (State → Bool) → ℕ → ℕ → Type 0
Agrees test k b = test (byte_state b) ≡ eqb b k

by_byte : (test : State → Bool) (k b : ℕ) → Agrees test k 0 → Agrees test k 1 → Agrees test k 2 → Agrees test k 3 → (waiting_from ≤ b → test (Waiting (b - waiting_from)) ≡ eqb b k) → Agrees test k b
by_byte test k b e0 e1 e2 e3 e4 =
    either b 0 (λ e. rw e e0)
    (λ n0. either b 1 (λ e. rw e e1)
    (λ n1. either b 2 (λ e. rw e e2)
    (λ n2. either b 3 (λ e. rw e e3)
    (λ n3. rw (byte-waiting b (omega arith)) (e4 (omega arith))))))

pub free-byte : (b : ℕ) → is_free (byte_state b) ≡ eqb b 0
free-byte b = by_byte is_free 0 b refl refl refl refl (λ h. sym (ne_eqb b 0 (omega arith)))

pub current-byte : (b : ℕ) → is_current (byte_state b) ≡ eqb b 1
current-byte b = by_byte is_current 1 b refl refl refl refl (λ h. sym (ne_eqb b 1 (omega arith)))

pub ready-byte : (b : ℕ) → is_ready (byte_state b) ≡ eqb b 2
ready-byte b = by_byte is_ready 2 b refl refl refl refl (λ h. sym (ne_eqb b 2 (omega arith)))

-- well formed bytes name semaphores only
pub names-all : (bs : List ℕ) → well_formed bs ≡ true → all process_limit (λ p. names_semaphore (state_of (from_bytes bs) p)) ≡ true
names-all bs wf =
    all_true process_limit (λ p. names_semaphore (state_of (from_bytes bs) p))
    (λ p h. let b = get_or bs (states_at + p) 0 in rw (state-said bs p h) (one (byte_state b) (state-back b (formed-state bs wf p h)).1))
  where
    one : (st : State) → Named st → names_semaphore st ≡ true
    one Free n = refl
    one Current n = refl
    one Ready n = refl
    one Suspended n = refl
    one (Waiting s) n = lt-ltb s semaphore_limit n

-- a turn of a loop that adds up the current processes
module _ (bs : List ℕ) (w : ℕ → ℕ) (i n : ℕ) (h : i < process_limit) (e : n ≡ sum_below (from_bytes bs) is_current w i) where
  test : is_current (state_of (from_bytes bs) i) ≡ eqb (get_or bs (states_at + i) 0) 1
  test = ap is_current (state-said bs i h) ∙ current-byte (get_or bs (states_at + i) 0)

  pub current-more : get_or bs (states_at + i) 0 ≡ 1 → n + w i ≡ sum_below (from_bytes bs) is_current w (i + 1)
  current-more q = sum-yes (λ p. is_current (state_of (from_bytes bs) p)) w i n e (test ∙ eq-eqb _ 1 q)

  pub current-same : (get_or bs (states_at + i) 0 ≡ 1 → ⊥) → n ≡ sum_below (from_bytes bs) is_current w (i + 1)
  current-same q = sum-no (λ p. is_current (state_of (from_bytes bs) p)) w i n e (test ∙ ne_eqb _ 1 q)

pub currents-small : (bs : List ℕ) (w : ℕ → ℕ) (i m : ℕ) → ((p : ℕ) → p < i → w p ≤ m) → sum_below (from_bytes bs) is_current w i ≤ i * m
currents-small bs = sum-small (λ p. is_current (state_of (from_bytes bs) p))
