-- One field written is one field of the tables changed. Assumes nothing.
use Prim.Native.Nat.{◌%◌, ◌*◌, ◌+◌, ◌-◌, ◌/◌, ◌<◌, ℕ}
use native.Mathlib.Nat.{div-add-mod'}
use native.Mathlib.Omega.{arith}
use mathlib.Core.Path.{◌∙◌, ◌≡◌, ap, refl, subst}
use mathlib.Core.Bool.{Bool}
use mathlib.Core.List.{List}
use lib.ListN.{length, length-set, set}
use lib.Seq.{get_or-set_other, get_or-set_same, set-set}
use lib.IntN.{ℤ}
use mir.Syntax.{w32}
use mir.Val.{SFits, of_z}
use borrow.Author.Tests.{le-ltb, lt-ltb}
use Rattle.tables.specs.declared.State.{State}
use Rattle.tables.specs.declared.Process.{Process}
use Rattle.tables.specs.declared.Semaphore.{Semaphore}
use Rattle.tables.specs.declared.Tables.{Tables}
use Rattle.tables.specs.Limits.{process_limit, semaphore_limit}
use Rattle.tables.specs.Readers.{count_of, free_semaphore, free_slot, is_used, priority_of, state_of}
use Rattle.tables.specs.Setters.{with_count, with_cursors, with_next_process, with_next_semaphore, with_order, with_priority, with_process, with_processes, with_semaphore, with_semaphores, with_state, with_used}
use Rattle.lists.proofs.Bools.{below?}
use Rattle.layout.specs.Offsets.{counts_at, next_process_at, next_semaphore_at, order_at, priorities_at, states_at, used_at}
use Rattle.layout.specs.Bytes.{byte_of, state_byte, used_byte, word_byte}
use Rattle.layout.specs.Stands.{Held, Named, Stands, Turns, store4}
use Rattle.layout.proofs.Regions.{count-byte, entry, here, kept, place_byte, priority-byte, put_byte, put_word, state-byte, used-byte}

-- Each process has a slot, each semaphore an entry

slot-there : (t : Tables) → Held t → (p : ℕ) → p < process_limit → p < length t.processes
slot-there t h p k = omega (arith, h.slots)

entry-there : (t : Tables) → Held t → (s : ℕ) → s < semaphore_limit → s < length t.semaphores
entry-there t h s k = omega (arith, h.entries)

-- What is held after a change

held-process : (t : Tables) → Held t → (p : ℕ) (x : Process) → p < process_limit → Named x.state → Held (with_process t p x)
held-process t h p x hp named =
    record {
      slots = length-set t.processes p x ∙ h.slots;
      entries = h.entries;
      places = h.places;
      waits = λ k hk. entry t.processes p x free_slot (omega (arith, h.slots)) (λ (z : Process). Named z.state) named k (h.waits k hk);
      fits = h.fits;
      row = h.row;
    }

held-semaphore : (t : Tables) → Held t → (s : ℕ) (x : Semaphore) → s < semaphore_limit → SFits w32 x.count → Held (with_semaphore t s x)
held-semaphore t h s x hs fits =
    record {
      slots = h.slots;
      entries = length-set t.semaphores s x ∙ h.entries;
      places = h.places;
      waits = h.waits;
      fits = λ k. entry t.semaphores s x free_semaphore (omega (arith, h.entries)) (λ (z : Semaphore). SFits w32 z.count) fits k (h.fits k);
      row = h.row;
    }

held_place : (t : Tables) → Held t → (j q : ℕ) → j < process_limit → q < process_limit → Held (with_order t (set t.order j q))
held_place t h j q hj hq =
    record {
      slots = h.slots;
      entries = h.entries;
      places = length-set t.order j q ∙ h.places;
      waits = h.waits;
      fits = h.fits;
      row = λ k hk. entry t.order j q 0 (omega (arith, h.places)) (λ (z : ℕ). z < process_limit) hq k (h.row k hk);
    }

-- What stands at each byte after a change: a part names its own bytes, and the test that bounds it closes all others

module _ (t : Tables) where
  process-same : (p : ℕ) (x : Process) → p < length t.processes → (i : ℕ) →
      (i ≡ states_at + p → state_byte x.state ≡ state_byte (state_of t p)) → (i ≡ priorities_at + p → x.priority ≡ priority_of t p) → byte_of t i ≡ byte_of (with_process t p x) i
  process-same p x h i state priority =
      below? i priorities_at (λ a. rw (lt-ltb i priorities_at a) (kept t.processes p x free_slot h (λ (z : Process). state_byte z.state) (i - states_at) (λ e. state (omega arith))))
      (λ a. below? i used_at (λ b. rw (le-ltb i priorities_at a, lt-ltb i used_at b) (kept t.processes p x free_slot h (λ (z : Process). z.priority) (i - priorities_at) (λ e. priority (omega arith))))
      (λ b. rw (le-ltb i priorities_at a, le-ltb i used_at b)))

  semaphore-same : (s : ℕ) (x : Semaphore) → s < length t.semaphores → (i : ℕ) →
      (i ≡ used_at + s → used_byte x.used ≡ used_byte (is_used t s)) → ((d : ℕ) → d < 4 → i ≡ counts_at + s * 4 + d → x.count ≡ count_of t s) → byte_of t i ≡ byte_of (with_semaphore t s x) i
  semaphore-same s x h i used count =
      below? i used_at (λ a. rw (lt-ltb i used_at a))
      (λ a. below? i counts_at (λ b. rw (le-ltb i priorities_at (omega arith), le-ltb i used_at a, lt-ltb i counts_at b)
      (kept t.semaphores s x free_semaphore h (λ (z : Semaphore). used_byte z.used) (i - used_at) (λ e. used (omega arith))))
      (λ b. below? i order_at (λ c. let r : (i - counts_at) / 4 * 4 + (i - counts_at) % 4 ≡ i - counts_at = div-add-mod' (i - counts_at) 4 in
      rw (le-ltb i priorities_at (omega arith), le-ltb i used_at a, le-ltb i counts_at b, lt-ltb i order_at c)
      (kept t.semaphores s x free_semaphore h (λ (z : Semaphore). word_byte (of_z w32 z.count) ((i - counts_at) % 4)) ((i - counts_at) / 4)
      (λ e. ap (λ (c : ℤ). word_byte (of_z w32 c) ((i - counts_at) % 4)) (count ((i - counts_at) % 4) (omega arith) (omega arith)))))
      (λ c. rw (le-ltb i counts_at b, le-ltb i order_at c))))

  place_same : (j q : ℕ) → j < length t.order → (i : ℕ) → (i ≡ order_at + j → ⊥) → byte_of t i ≡ byte_of (with_order t (set t.order j q)) i
  place_same j q h i away =
      below? i order_at (λ a. rw (lt-ltb i order_at a))
      (λ a. below? i next_semaphore_at (λ b. rw (get_or-set_other t.order j (i - order_at) q 0 (λ e. away (omega arith))))
      (λ b. rw (le-ltb i next_semaphore_at b)))

  cursor-same : (s p i : ℕ) → (i ≡ next_semaphore_at → s ≡ t.next_semaphore) → (i ≡ next_process_at → p ≡ t.next_process) → byte_of t i ≡ byte_of (with_cursors t s p) i
  cursor-same s p i first second =
      below? i next_semaphore_at (λ a. rw (lt-ltb i next_semaphore_at a))
      (λ a. below? i next_process_at (λ b. rw (first (omega arith), lt-ltb i next_process_at b))
      (λ b. below? i (next_process_at + 1) (λ c. rw (second (omega arith), le-ltb i next_process_at b))
      (λ c. rw (le-ltb i next_process_at b, le-ltb i (next_process_at + 1) c))))

-- Each field

put-priority : (t : Tables) (bs : List ℕ) → Stands t bs → (p v : ℕ) → p < process_limit → Stands (with_priority t p v) (set bs (priorities_at + p) v)
put-priority t bs st p v h =
    let x : Process = record { state = state_of t p; priority = v } in
    put_byte t (with_priority t p v) bs st (held-process t st.held p x h (st.held.waits p h)) (priorities_at + p) v (omega arith)
    (priority-byte (with_priority t p v) p (priorities_at + p) h refl ∙ here t.processes p x free_slot (slot-there t st.held p h) (λ (y : Process). y.priority))
    (λ i q. process-same t p x (slot-there t st.held p h) i (λ e. refl) (λ e. absurd (q e)))

module _ (bs : List ℕ) where
  pub state-turns : (p : ℕ) (s : State) → p < process_limit → Named s → Turns (λ t. with_state t p s) bs (set bs (states_at + p) (state_byte s))
  unfolding Turns
  state-turns p s h named t st =
      let x : Process = record { state = s; priority = priority_of t p } in
      put_byte t (with_state t p s) bs st (held-process t st.held p x h named) (states_at + p) (state_byte s) (omega arith)
      (state-byte (with_state t p s) p (states_at + p) h refl ∙ here t.processes p x free_slot (slot-there t st.held p h) (λ (y : Process). state_byte y.state))
      (λ i q. process-same t p x (slot-there t st.held p h) i (λ e. absurd (q e)) (λ e. refl))

  pub process-turns : (p : ℕ) (x : Process) → p < process_limit → Named x.state → Turns (λ t. with_process t p x) bs (set (set bs (states_at + p) (state_byte x.state)) (priorities_at + p) x.priority)
  unfolding Turns
  process-turns p x h named t st =
      let y : Process = record { state = x.state; priority = priority_of t p } in
      let b : List ℕ = set (set bs (states_at + p) (state_byte x.state)) (priorities_at + p) x.priority in
      subst (λ (z : List Process). Stands (with_processes t z) b) (set-set t.processes p y x)
      (subst (λ (z : State). Stands (with_process (with_state t p x.state) p (record { state = z; priority = x.priority })) b) (here t.processes p y free_slot (slot-there t st.held p h) (λ (z : Process). z.state))
      (put-priority (with_state t p x.state) (set bs (states_at + p) (state_byte x.state)) (state-turns p x.state h named t st) p x.priority h))

  pub used-turns : (s : ℕ) (u : Bool) → s < semaphore_limit → Turns (λ t. with_used t s u) bs (set bs (used_at + s) (used_byte u))
  unfolding Turns
  used-turns s u h t st =
      let x : Semaphore = record { used = u; count = count_of t s } in
      put_byte t (with_used t s u) bs st (held-semaphore t st.held s x h (st.held.fits s)) (used_at + s) (used_byte u) (omega arith)
      (used-byte (with_used t s u) s (used_at + s) h refl ∙ here t.semaphores s x free_semaphore (entry-there t st.held s h) (λ (y : Semaphore). used_byte y.used))
      (λ i q. semaphore-same t s x (entry-there t st.held s h) i (λ e. absurd (q e)) (λ d hd e. refl))

  pub count-turns : (s : ℕ) (c : ℤ) → s < semaphore_limit → SFits w32 c → Turns (λ t. with_count t s c) bs (store4 bs (counts_at + s * 4) (of_z w32 c))
  unfolding Turns
  count-turns s c h f t st =
      let x : Semaphore = record { used = is_used t s; count = c } in
      put_word t (with_count t s c) bs st (held-semaphore t st.held s x h f) (counts_at + s * 4) (of_z w32 c) (omega arith)
      (λ d hd. count-byte (with_count t s c) s d (counts_at + s * 4 + d) h hd refl ∙ here t.semaphores s x free_semaphore (entry-there t st.held s h) (λ (y : Semaphore). word_byte (of_z w32 y.count) d))
      (λ i q. semaphore-same t s x (entry-there t st.held s h) i (λ e. refl) (λ d hd e. absurd (q d hd e)))

  pub place-turns : (j q : ℕ) → j < process_limit → q < process_limit → Turns (λ t. with_order t (set t.order j q)) bs (set bs (order_at + j) q)
  unfolding Turns
  place-turns j q h hq t st =
      let ho : j < length t.order = omega (arith, st.held.places) in
      let t' : Tables = with_order t (set t.order j q) in
      put_byte t t' bs st (held_place t st.held j q h hq) (order_at + j) q (omega arith)
      (place_byte t' j (order_at + j) h refl ∙ get_or-set_same t.order j q 0 ho) (place_same t j q ho)

  pub next-semaphore-turns : (s : ℕ) → Turns (λ t. with_next_semaphore t s) bs (set bs next_semaphore_at s)
  unfolding Turns
  next-semaphore-turns s t st =
      put_byte t (with_next_semaphore t s) bs st st.held next_semaphore_at s (omega arith) refl
      (λ i q. cursor-same t s t.next_process i (λ e. absurd (q e)) (λ e. refl))

  pub next-process-turns : (p : ℕ) → Turns (λ t. with_next_process t p) bs (set bs next_process_at p)
  unfolding Turns
  next-process-turns p t st =
      put_byte t (with_next_process t p) bs st st.held next_process_at p (omega arith) refl
      (λ i q. cursor-same t t.next_semaphore p i (λ e. refl) (λ e. absurd (q e)))

-- a semaphore written whole: its used flag, then its count
pub semaphore-turns : (s : ℕ) (x : Semaphore) (a b c : List ℕ) → s < semaphore_limit → Turns (λ t. with_used t s x.used) a b → Turns (λ t. with_count t s x.count) b c → Turns (λ t. with_semaphore t s x) a c
unfolding Turns
semaphore-turns s x a b c h f g t st =
    let y : Semaphore = record { used = x.used; count = count_of t s } in
    subst (λ (z : List Semaphore). Stands (with_semaphores t z) c) (set-set t.semaphores s y x)
    (subst (λ (z : Bool). Stands (with_semaphore (with_used t s x.used) s (record { used = z; count = x.count })) c) (here t.semaphores s y free_semaphore (entry-there t st.held s h) (λ (z : Semaphore). z.used))
    (g (with_used t s x.used) (f t st)))
