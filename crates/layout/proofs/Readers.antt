-- What each field of the lent bytes tells. Assumes nothing.
use Prim.Native.Nat.{◌*◌, ◌+◌, ◌-◌, ◌<◌, ◌≤◌, ℕ}
use native.Mathlib.Omega.{arith}
use mathlib.Core.Path.{◌∙◌, ◌≡◌, ap, refl}
use mathlib.Core.Bool.{Bool, false, true}
use mathlib.Core.List.{List}
use lib.Dec.{eqb, ltb}
use lib.ListN.{get_or}
use lib.IntN.{ℤ}
use mir.Syntax.{w32}
use mir.Val.{SFits, bool_byte, of_z, to_z}
use mir.ValLaws.{of_z_fits, to_z-of_z}
use borrow.Author.Tests.{lt-ltb, ne_eqb}
use Rattle.tables.specs.declared.State.{State}
use Rattle.tables.specs.declared.State.TheVariants.{Current, Free, Ready, Suspended, Waiting}
use Rattle.tables.specs.declared.Tables.{Tables}
use Rattle.tables.specs.Limits.{process_limit, semaphore_limit}
use Rattle.tables.specs.Readers.{count_of, is_used, priority_of, process, semaphore, state_of}
use Rattle.tables.specs.States.{is_free}
use Rattle.layout.specs.Offsets.{counts_at, next_process_at, next_semaphore_at, order_at, priorities_at, states_at, used_at}
use Rattle.layout.specs.Bytes.{byte_state, count_at, no_state, process_at, semaphore_at, state_byte, used_byte, waiting_from}
use Rattle.layout.specs.Stands.{Named, Stands, Tells}
use Rattle.lists.proofs.Bools.{split}
use Rattle.layout.proofs.Words.{word_read}
use Rattle.layout.proofs.Regions.{count-byte, place_byte, priority-byte, state-byte, used-byte}

-- One entry as bytes, and back

pub byte-waiting : (b : ℕ) → waiting_from ≤ b → byte_state b ≡ Waiting (b - waiting_from)
byte-waiting b h = rw (ne_eqb b 0 (omega arith), ne_eqb b 1 (omega arith), ne_eqb b 2 (omega arith), ne_eqb b 3 (omega arith))

state-there : (s : State) → Named s → byte_state (state_byte s) ≡ s
state-there Free h = refl
state-there Current h = refl
state-there Ready h = refl
state-there Suspended h = refl
state-there (Waiting q) h = rw (lt-ltb q semaphore_limit h) (byte-waiting (waiting_from + q) (omega arith) ∙ ap Waiting (omega arith))

-- who waits has a byte above those of the other states
pub wait-byte : (q b : ℕ) → b < waiting_from → eqb (state_byte (Waiting q)) b ≡ false
wait-byte q b h = split (ltb q semaphore_limit) (λ e. rw e (ne_eqb (waiting_from + q) b (λ z. omega arith))) (λ e. rw e (ne_eqb no_state b (λ z. omega arith)))

pub free-byte : (s : State) → eqb (state_byte s) 0 ≡ is_free s
free-byte Free = refl
free-byte Current = refl
free-byte Ready = refl
free-byte Suspended = refl
free-byte (Waiting q) = wait-byte q 0 (omega arith)

used-there : (u : Bool) → eqb (used_byte u) 1 ≡ u
used-there true = refl
used-there false = refl

-- Of bytes that are tables

module _ (t : Tables) (bs : List ℕ) (st : Stands t bs) where
  pub state-stands : (p : ℕ) → p < process_limit → get_or bs (states_at + p) 0 ≡ state_byte (state_of t p)
  state-stands p h = st.bytes (states_at + p) (omega arith) ∙ state-byte t p (states_at + p) h refl

  priority-read : (p : ℕ) → p < process_limit → get_or bs (priorities_at + p) 0 ≡ priority_of t p
  priority-read p h = st.bytes (priorities_at + p) (omega arith) ∙ priority-byte t p (priorities_at + p) h refl

  pub process-read : (p : ℕ) → p < process_limit → process_at bs p ≡ process t p
  process-read p h =
      let e : byte_state (get_or bs (states_at + p) 0) ≡ state_of t p = ap byte_state (state-stands p h) ∙ state-there (state_of t p) (st.held.waits p h) in
      rw (e, priority-read p h)

  pub used-stands : (s : ℕ) → s < semaphore_limit → get_or bs (used_at + s) 0 ≡ used_byte (is_used t s)
  used-stands s h = st.bytes (used_at + s) (omega arith) ∙ used-byte t s (used_at + s) h refl

  used-read : (s : ℕ) → s < semaphore_limit → eqb (get_or bs (used_at + s) 0) 1 ≡ is_used t s
  used-read s h = ap (λ (z : ℕ). eqb z 1) (used-stands s h) ∙ used-there (is_used t s)

  count-read : (s : ℕ) → s < semaphore_limit → count_at bs s ≡ count_of t s
  count-read s h =
      let k : ℕ = counts_at + s * 4 in
      let c : ℤ = count_of t s in
      let f : SFits w32 c = st.held.fits s in
      ap (to_z w32) (word_read bs k (of_z w32 c) (of_z_fits w32 c f).fits (λ d hd. st.bytes (k + d) (omega arith) ∙ count-byte t s d (k + d) h hd refl)) ∙ to_z-of_z w32 c f

  pub semaphore-read : (s : ℕ) → s < semaphore_limit → semaphore_at bs s ≡ semaphore t s
  semaphore-read s h = rw (used-read s h, count-read s h)

  pub place_read : (i : ℕ) → i < process_limit → get_or bs (order_at + i) 0 ≡ get_or t.order i 0
  place_read i h = st.bytes (order_at + i) (omega arith) ∙ place_byte t i (order_at + i) h refl

-- As readers

module _ (bs : List ℕ) where
  pub process-tells : (p : ℕ) → p < process_limit → Tells (λ t. process t p) bs (process_at bs p)
  unfolding Tells
  process-tells p h t st = process-read t bs st p h

  pub used-tells : (s : ℕ) → s < semaphore_limit → Tells (λ t. is_used t s) bs (eqb (get_or bs (used_at + s) 0) 1)
  unfolding Tells
  used-tells s h t st = used-read t bs st s h

  pub count-tells : (s : ℕ) (r : ℤ) → s < semaphore_limit → r ≡ count_at bs s → Tells (λ t. count_of t s) bs r
  unfolding Tells
  count-tells s r h e t st = e ∙ count-read t bs st s h

  pub place-tells : (i : ℕ) → i < process_limit → Tells (λ t. get_or t.order i 0) bs (get_or bs (order_at + i) 0)
  unfolding Tells
  place-tells i h t st = place_read t bs st i h

  pub next-semaphore-tells : Tells (λ t. t.next_semaphore) bs (get_or bs next_semaphore_at 0)
  unfolding Tells
  next-semaphore-tells t st = st.bytes next_semaphore_at (omega arith)

  pub next-process-tells : Tells (λ t. t.next_process) bs (get_or bs next_process_at 0)
  unfolding Tells
  next-process-tells t st = st.bytes next_process_at (omega arith)

-- a flag stored as the machine stores a bool
pub bool-byte : (b : Bool) → bool_byte b ≡ used_byte b
bool-byte true = refl
bool-byte false = refl
