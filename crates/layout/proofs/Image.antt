-- The tables fix every byte, and the bytes fix the tables. Assumes nothing.
use Prim.Native.Nat.{◌%◌, ◌*◌, ◌+◌, ◌-◌, ◌/◌, ◌<◌, ◌≤◌, ℕ}
use native.Mathlib.Nat.{div-add-mod'}
use native.Mathlib.Omega.{arith}
use mathlib.Core.Bool.{Bool, ◌&&◌, false, true}
use mathlib.Core.List.{List, map}
use mathlib.Core.Path.{◌∙◌, ◌≡◌, ap, refl, subst, sym}
use lib.Dec.{eqb}
use lib.ListN.{get_or-eq_default, get_or, length, length-map}
use lib.Seq.{ext_get_or}
use mir.Syntax.{w32}
use mir.Val.{SFits, of_z}
use mir.ValLaws.{of_z-to_z, to_z-Fits}
use borrow.Author.Tests.{eq-eqb, eqb-true, lt-ltb, ltb-true}
use Rattle.lists.specs.Numbers.{all, listed}
use Rattle.tables.specs.Limits.{process_limit, semaphore_limit}
use Rattle.tables.specs.Readers.{count_of, free_semaphore, free_slot, is_used, priority_of, process, semaphore, state_of}
use Rattle.tables.specs.declared.Process.{Process}
use Rattle.tables.specs.declared.Semaphore.{Semaphore}
use Rattle.tables.specs.declared.Tables.{Tables}
use Rattle.tables.specs.declared.State.{State}
use Rattle.tables.specs.declared.State.TheVariants.{Current, Free, Ready, Suspended, Waiting}
use Rattle.lists.proofs.Bools.{and_in, below?, both, either}
use Rattle.lists.proofs.NumberLaws.{all-at, all_true, listed-all, listed_at, listed-length}
use Rattle.layout.specs.Bytes.{byte_of, byte_state, count_at, flag_plain, from_bytes, place_at, place_named, process_at, semaphore_at, state_byte, state_named, to_bytes, used_byte, well_formed, word_at, word_byte, waiting_from}
use Rattle.layout.specs.Offsets.{counts_at, next_process_at, next_semaphore_at, order_at, priorities_at, size, states_at, used_at}
use Rattle.layout.specs.Stands.{Held, Named, Stands}
use Rattle.layout.proofs.Words.{word-said, word_small}
use Rattle.layout.proofs.Regions.{count-byte, place_byte, priority-byte, state-byte, used-byte}
use Rattle.layout.proofs.Readers.{byte-waiting, place_read, process-read, semaphore-read, state-stands, used-stands}

-- Tables stand in their bytes, and in no others

pub bytes-long : (t : Tables) → length (to_bytes t) ≡ size
unfolding to_bytes
bytes-long t = listed-length (byte_of t) 0 size

module _ (t : Tables) where
  pub byte_at : (i : ℕ) → i < size → get_or (to_bytes t) i 0 ≡ byte_of t i
  unfolding to_bytes
  byte_at i h = listed_at (byte_of t) size i 0 h

  pub stands-made : Held t → Stands t (to_bytes t)
  stands-made h = record { held = h; long = bytes-long t; bytes = byte_at }

  pub same_bytes : (a b : List ℕ) → Stands t a → Stands t b → a ≡ b
  same_bytes a b x y = let l = x.long in ext_get_or 0 a b (l ∙ sym y.long) (λ i h. x.bytes i (omega arith) ∙ sym (y.bytes i (omega arith)))

-- The tables that bytes are, entry by entry

module _ (bs : List ℕ) where
  pub process-said : (p : ℕ) → p < process_limit → process (from_bytes bs) p ≡ process_at bs p
  unfolding from_bytes
  process-said p h = listed_at (process_at bs) process_limit p free_slot h

  pub state-said : (p : ℕ) → p < process_limit → state_of (from_bytes bs) p ≡ byte_state (get_or bs (states_at + p) 0)
  state-said p h = ap (λ (x : Process). x.state) (process-said p h)

  pub priority-said : (p : ℕ) → p < process_limit → priority_of (from_bytes bs) p ≡ get_or bs (priorities_at + p) 0
  priority-said p h = ap (λ (x : Process). x.priority) (process-said p h)

  pub semaphore-said : (s : ℕ) → s < semaphore_limit → semaphore (from_bytes bs) s ≡ semaphore_at bs s
  unfolding from_bytes
  semaphore-said s h = listed_at (semaphore_at bs) semaphore_limit s free_semaphore h

  pub place-said : (i : ℕ) → i < process_limit → get_or (from_bytes bs).order i 0 ≡ place_at bs i
  unfolding from_bytes
  place-said i h = listed_at (place_at bs) process_limit i 0 h

  pub processes-long : length (from_bytes bs).processes ≡ process_limit
  unfolding from_bytes
  processes-long = listed-length (process_at bs) 0 process_limit

  pub semaphores-long : length (from_bytes bs).semaphores ≡ semaphore_limit
  unfolding from_bytes
  semaphores-long = listed-length (semaphore_at bs) 0 semaphore_limit

  pub order-long : length (from_bytes bs).order ≡ process_limit
  unfolding from_bytes
  order-long = listed-length (place_at bs) 0 process_limit

-- Bytes stand for one tables only

pub stands-is : (t : Tables) (bs : List ℕ) → Stands t bs → from_bytes bs ≡ t
unfolding from_bytes
stands-is t bs st =
    let ps : listed 0 process_limit (process_at bs) ≡ t.processes = listed-all free_slot (process_at bs) process_limit t.processes st.held.slots (process-read t bs st) in
    let ss : listed 0 semaphore_limit (semaphore_at bs) ≡ t.semaphores = listed-all free_semaphore (semaphore_at bs) semaphore_limit t.semaphores st.held.entries (semaphore-read t bs st) in
    let os : listed 0 process_limit (place_at bs) ≡ t.order = listed-all 0 (place_at bs) process_limit t.order st.held.places (place_read t bs st) in
    rw (ps, ss, os, st.bytes next_semaphore_at (omega arith), st.bytes next_process_at (omega arith))

-- A round trip from tables

pub tables-back : (t : Tables) → Held t → from_bytes (to_bytes t) ≡ t
tables-back t h = stands-is t (to_bytes t) (stands-made t h)

-- Well formed bytes

module _ (bs : List ℕ) (wf : well_formed bs ≡ true) where
  pub formed-long : length bs ≡ size
  unfolding well_formed
  formed-long = eqb-true (length bs) size (both (eqb (length bs) size) _ wf).0

  rest : (all process_limit (state_named bs) && (all semaphore_limit (flag_plain bs) && all process_limit (place_named bs))) ≡ true
  unfolding well_formed
  rest = (both (eqb (length bs) size) _ wf).1

  pub formed-state : (p : ℕ) → p < process_limit → get_or bs (states_at + p) 0 < waiting_from + semaphore_limit
  formed-state p h = ltb-true _ (waiting_from + semaphore_limit) (all-at (state_named bs) process_limit p (both (all process_limit (state_named bs)) _ rest).0 h)

  formed-flag : (s : ℕ) → s < semaphore_limit → get_or bs (used_at + s) 0 < 2
  formed-flag s h = ltb-true _ 2 (all-at (flag_plain bs) semaphore_limit s (both (all semaphore_limit (flag_plain bs)) _ (both (all process_limit (state_named bs)) _ rest).1).0 h)

  pub formed-place : (i : ℕ) → i < process_limit → get_or bs (order_at + i) 0 < process_limit
  formed-place i h = ltb-true _ process_limit (all-at (place_named bs) process_limit i (both (all semaphore_limit (flag_plain bs)) _ (both (all process_limit (state_named bs)) _ rest).1).1 h)

-- the bytes of tables that they can hold are well formed
pub formed-made : (t : Tables) → Held t → well_formed (to_bytes t) ≡ true
unfolding well_formed
formed-made t h =
    let st = stands-made t h in
    and_in (eq-eqb (length (to_bytes t)) size (bytes-long t))
    (and_in (all_true process_limit (state_named (to_bytes t))
    (λ p k. lt-ltb (get_or (to_bytes t) (states_at + p) 0) (waiting_from + semaphore_limit) (rw (state-stands t (to_bytes t) st p k) (state-small (state_of t p) (h.waits p k)))))
    (and_in (all_true semaphore_limit (flag_plain (to_bytes t))
    (λ s k. lt-ltb (get_or (to_bytes t) (used_at + s) 0) 2 (rw (used-stands t (to_bytes t) st s k) (used-small (is_used t s)))))
    (all_true process_limit (place_named (to_bytes t))
    (λ i k. lt-ltb (get_or (to_bytes t) (order_at + i) 0) process_limit (rw (place_read t (to_bytes t) st i k) (h.row i k))))))
  where
    state-small : (s : State) → Named s → state_byte s < waiting_from + semaphore_limit
    state-small Free n = omega arith
    state-small Current n = omega arith
    state-small Ready n = omega arith
    state-small Suspended n = omega arith
    state-small (Waiting q) n = rw (lt-ltb q semaphore_limit n) (omega arith)

    used-small : (u : Bool) → used_byte u < 2
    used-small true = omega arith
    used-small false = omega arith

-- One entry of well formed bytes

pub state-back : (b : ℕ) → b < waiting_from + semaphore_limit → (state_byte (byte_state b) ≡ b) × Named (byte_state b)
state-back b h =
    either b 0 (λ e. rw e (refl, tt))
    (λ n0. either b 1 (λ e. rw e (refl, tt))
    (λ n1. either b 2 (λ e. rw e (refl, tt))
    (λ n2. either b 3 (λ e. rw e (refl, tt))
    (λ n3. rw (byte-waiting b (omega arith)) (rw (lt-ltb (b - waiting_from) semaphore_limit (omega arith)) (omega arith), omega arith)))))

used-back : (u : ℕ) → u < 2 → used_byte (eqb u 1) ≡ u
used-back u h = either u 0 (λ e. rw e refl) (λ n. let e : u ≡ 1 = omega arith in rw e refl)

-- an array that is a field of a struct has the length of its type
pub unmapped : (X Y : Type 0) (f : X → Y) (l : List X) (n : ℕ) → length (map f l) ≡ n → length l ≡ n
unmapped X Y f l n e = sym (length-map l f) ∙ e

-- a count past the table reads as 0
pub past_fits : (t : Tables) → length t.semaphores ≡ semaphore_limit → (s : ℕ) → semaphore_limit ≤ s → SFits w32 (count_of t s)
past_fits t l s h = subst (λ (x : Semaphore). SFits w32 x.count) (sym (get_or-eq_default t.semaphores free_semaphore {n = s} (omega arith))) record { sfits = omega arith }

-- Well formed bytes are the tables that they say

module _ (bs : List ℕ) (byte : (i : ℕ) → get_or bs i 0 < 256) (wf : well_formed bs ≡ true) where
  abbrev said : Tables
  said = from_bytes bs

  count : (s : ℕ) → s < semaphore_limit → count_of said s ≡ count_at bs s
  count s h = ap (λ (x : Semaphore). x.count) (semaphore-said bs s h)

  word_kept : (s : ℕ) → s < semaphore_limit → word_at bs (counts_at + s * 4) ≡ of_z w32 (count_of said s)
  word_kept s h = let k : ℕ = counts_at + s * 4 in sym (ap (of_z w32) (count s h) ∙ of_z-to_z w32 (word_at bs k) (record { fits = word_small bs k byte }))

  held-said : Held said
  held-said =
      record {
        slots = processes-long bs;
        entries = semaphores-long bs;
        places = order-long bs;
        waits = λ p h. rw (state-said bs p h) (state-back (get_or bs (states_at + p) 0) (formed-state bs wf p h)).1;
        fits = λ s. below? s semaphore_limit (λ h. rw (count s h) (to_z-Fits w32 _ (record { fits = word_small bs (counts_at + s * 4) byte }))) (past_fits said (semaphores-long bs) s);
        row = λ i h. rw (place-said bs i h) (formed-place bs wf i h);
      }

  -- Each part

  state-kept : (p i : ℕ) → p < process_limit → i ≡ states_at + p → get_or bs i 0 ≡ byte_of said i
  state-kept p i h e = sym (state-byte said p i h e ∙ ap state_byte (state-said bs p h) ∙ rw e (state-back (get_or bs (states_at + p) 0) (formed-state bs wf p h)).0)

  priority-kept : (p i : ℕ) → p < process_limit → i ≡ priorities_at + p → get_or bs i 0 ≡ byte_of said i
  priority-kept p i h e = sym (priority-byte said p i h e ∙ priority-said bs p h ∙ rw e refl)

  used-kept : (s i : ℕ) → s < semaphore_limit → i ≡ used_at + s → get_or bs i 0 ≡ byte_of said i
  used-kept s i h e = sym (used-byte said s i h e ∙ ap (λ (x : Semaphore). used_byte x.used) (semaphore-said bs s h) ∙ rw e (used-back (get_or bs (used_at + s) 0) (formed-flag bs wf s h)))

  count_kept : (s d i : ℕ) → s < semaphore_limit → d < 4 → i ≡ counts_at + s * 4 + d → get_or bs i 0 ≡ byte_of said i
  count_kept s d i h hd e = sym (count-byte said s d i h hd e ∙ rw e (sym (word-said bs (counts_at + s * 4) byte d hd ∙ ap (λ (n : ℕ). word_byte n d) (word_kept s h))))

  place_kept : (j i : ℕ) → j < process_limit → i ≡ order_at + j → get_or bs i 0 ≡ byte_of said i
  place_kept j i h e = sym (place_byte said j i h e ∙ place-said bs j h ∙ rw e refl)

  byte-kept : (i : ℕ) → i < size → get_or bs i 0 ≡ byte_of said i
  unfolding from_bytes
  byte-kept i h =
      below? i priorities_at (λ k. state-kept (i - states_at) i (omega arith) (omega arith))
      (λ k₁. below? i used_at (λ k. priority-kept (i - priorities_at) i (omega arith) (omega arith))
      (λ k₂. below? i counts_at (λ k. used-kept (i - used_at) i (omega arith) (omega arith))
      (λ k₃. below? i order_at (λ k. let e = div-add-mod' (i - counts_at) 4 in count_kept ((i - counts_at) / 4) ((i - counts_at) % 4) i (omega arith) (omega arith) (omega arith))
      (λ k₄. below? i next_semaphore_at (λ k. place_kept (i - order_at) i (omega arith) (omega arith))
      (λ k₅. below? i next_process_at (λ k. let e : i ≡ next_semaphore_at = omega arith in rw e refl)
      (λ k₆. let e : i ≡ next_process_at = omega arith in rw e refl))))))

  pub stands_read : Stands said bs
  stands_read = record { held = held-said; long = formed-long bs wf; bytes = byte-kept }

  -- a round trip from bytes
  pub bytes_back : to_bytes said ≡ bs
  bytes_back = same_bytes said (to_bytes said) bs (stands-made said held-said) stands_read
