-- Who waits, by the state byte, and loops that sum, fill and tally, turn by turn. Assumes nothing.
use Rattle.std.specs.Prelude.{if◌then◌else◌}
use Prim.Native.Nat.{◌+◌, ◌-◌, ◌<◌, ◌≤◌, ℕ}
use native.Mathlib.Omega.{arith}
use mathlib.Core.Bool.{Bool, false}
use mathlib.Core.List.{List}
use mathlib.Core.Path.{◌∙◌, ◌≡◌, ap, refl, sym}
use lib.Dec.{eqb}
use lib.ListN.{get_or-eq_default, get_or, get_or-replicate, length, length-replicate, length-set, replicate, set}
use lib.Seq.{get_or-set_other, get_or-set_same}
use borrow.Author.Tests.{eq-eqb, le-ltb, lt-ltb, ne_eqb}
use Rattle.layout.specs.Bytes.{byte_state, from_bytes, waiting_from}
use Rattle.layout.specs.Offsets.{states_at}
use Rattle.lists.specs.Numbers.{total}
use Rattle.tables.specs.Limits.{process_limit, semaphore_limit}
use Rattle.tables.specs.Readers.{state_of}
use Rattle.tables.specs.States.{waits_on}
use Rattle.tables.specs.declared.Tables.{Tables}
use Rattle.layout.proofs.Image.{state-said}
use Rattle.layout.proofs.Readers.{byte-waiting}
use Rattle.lists.proofs.Bools.{below?, either, eqb_swap}
use Rattle.lists.proofs.Rows.{sum-no, sum-yes, total-none}
use Rattle.queues.specs.Tallies.{Tallied, cell_limit, cell_of}

-- who waits is counted at the semaphore, and nobody else
waits-byte : (b s i : ℕ) → s < semaphore_limit → waits_on s (byte_state b) ≡ eqb s (cell_of i b)
waits-byte b s i h =
    below? b waiting_from
    (λ l. rw (lt-ltb b waiting_from l) (low l ∙ sym (ne_eqb s (semaphore_limit + i) (omega arith))))
    (λ l. rw (le-ltb b waiting_from l, byte-waiting b l) (eqb_swap (b - waiting_from) s))
  where
    low : b < waiting_from → waits_on s (byte_state b) ≡ false
    low l =
        either b 0 (λ e. rw e refl)
        (λ n0. either b 1 (λ e. rw e refl)
        (λ n1. either b 2 (λ e. rw e refl)
        (λ n2. let e : b ≡ 3 = omega arith in rw e refl)))

-- the same of a process
pub waits-cell : (bs : List ℕ) (p i k : ℕ) → p < process_limit → k ≡ cell_of i (get_or bs (states_at + p) 0) → (s : ℕ) → s < semaphore_limit → waits_on s (state_of (from_bytes bs) p) ≡ eqb s k
waits-cell bs p i k hp e s h = ap (waits_on s) (state-said bs p hp) ∙ waits-byte (get_or bs (states_at + p) 0) s i h ∙ ap (eqb s) (sym e)

-- no cell is counted at more than once a turn
few-more : (cells : List ℕ) (k n : ℕ) → k < length cells → ((j : ℕ) → get_or cells j 0 ≤ n) → (j : ℕ) → get_or (set cells k (get_or cells k 0 + 1)) j 0 ≤ n + 1
few-more cells k n hk few j =
    either j k
    (λ e. rw (e, get_or-set_same cells k (get_or cells k 0 + 1) 0 hk) (let f = few k in omega arith))
    (λ d. rw (get_or-set_other cells k j (get_or cells k 0 + 1) 0 d) (let f = few j in omega arith))

-- a turn of a loop that counts by a key, in an array whose first m counters matter
module _ (f : ℕ → ℕ → Bool) (m i : ℕ) (n : List ℕ) (so : (j : ℕ) → j < m → get_or n j 0 ≡ total i (λ p. if f j p then 1 else 0)) where
  tally-more : (k : ℕ) → k < length n → ((j : ℕ) → j < m → f j i ≡ eqb j k) → (j : ℕ) → j < m → get_or (set n k (get_or n k 0 + 1)) j 0 ≡ total (i + 1) (λ p. if f j p then 1 else 0)
  tally-more k hk key j hj =
      either j k
      (λ e.
      ap (λ (q : ℕ). get_or (set n k (get_or n k 0 + 1)) q 0) e
      ∙ get_or-set_same n k (get_or n k 0 + 1) 0 hk
      ∙ ap (λ (q : ℕ). get_or n q 0 + 1) (sym e)
      ∙ sum-yes (f j) (λ p. 1) i (get_or n j 0) (so j hj) (key j hj ∙ eq-eqb j k e))
      (λ d. get_or-set_other n k j (get_or n k 0 + 1) 0 d ∙ sum-no (f j) (λ p. 1) i (get_or n j 0) (so j hj) (key j hj ∙ ne_eqb j k d))

-- a tally before its first turn
pub none-tallied : (t : Tables) (from : ℕ) → Tallied t from 0 (replicate cell_limit 0)
none-tallied t from =
    record {
      long = length-replicate {A = ℕ} cell_limit 0;
      few = λ k. below? k cell_limit
          (λ h. rw (get_or-replicate {A = ℕ} cell_limit k 0 0 h) (omega arith))
          (λ h. rw (get_or-eq_default {A = ℕ} (replicate cell_limit 0) 0 {n = k} (rw (length-replicate {A = ℕ} cell_limit 0) h)) (omega arith));
      said = λ s h. get_or-replicate {A = ℕ} cell_limit s 0 0 (omega arith) ∙ sym (total-none (λ p. if waits_on s (state_of t (from + p)) then 1 else 0));
    }

-- and a turn of it
pub tallied-next : (t : Tables) (from i : ℕ) (cells : List ℕ) → Tallied t from i cells → (k : ℕ) → k < cell_limit →
    ((s : ℕ) → s < semaphore_limit → waits_on s (state_of t (from + i)) ≡ eqb s k) → Tallied t from (i + 1) (set cells k (get_or cells k 0 + 1))
tallied-next t from i cells so k hk key =
    let l = so.long in
    let h : k < length cells = omega arith in
    record {
      long = simp length-set l;
      few = few-more cells k i h so.few;
      said = tally-more (λ s p. waits_on s (state_of t (from + p))) semaphore_limit i cells so.said k h key;
    }
