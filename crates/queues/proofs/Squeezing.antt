-- Counts squeezed into bytes, and compared so. Assumes nothing.
use Prim.Native.Nat.{◌+◌, ◌-◌, ◌<◌, ◌≤◌, suc, ℕ}
use native.Mathlib.Nat.{zero-add}
use native.Mathlib.Omega.{arith}
use mathlib.Core.Bool.{Bool, ◌&&◌, and-true, false, true}
use mathlib.Core.Path.{◌∙◌, ◌≡◌, sym}
use lib.Dec.{eqb}
use lib.IntN.{negsuc, pos, ℤ}
use borrow.Author.Tests.{le-ltb, lt-ltb, ne_eqb}
use Rattle.lists.specs.Numbers.{all}
use Rattle.tables.specs.Test.{count_fits}
use Rattle.lists.proofs.Bools.{and_in, and_no, below?, bool_iff, both, either, eqb_swap}
use Rattle.lists.proofs.NumberLaws.{all-at, all_true}
use Rattle.queues.specs.Squeeze.{claimed, squeezed, squeezed_fits}

-- What a squeezed count says of those that wait, where they are few

claim-pos : (c : ℕ) → claimed (squeezed (pos c)) ≡ 0
claim-pos c = below? c 128 (λ h. rw (lt-ltb c 128 h) (omega arith)) (λ h. rw (le-ltb c 128 h))

claim-neg : (c n : ℕ) → n < 128 → eqb (claimed (squeezed (negsuc c))) n ≡ eqb n (suc c)
claim-neg c n h =
    below? c 128
    (λ k. let e : 128 - (127 - c) ≡ suc c = omega arith in rw (lt-ltb c 128 k, e) (eqb_swap (suc c) n))
    (λ k. rw (le-ltb c 128 k) (ne_eqb 128 n (omega arith) ∙ sym (ne_eqb n (suc c) (omega arith))))

pub squeezed-fits : (used : Bool) (z : ℤ) (n : ℕ) → n < 128 → squeezed_fits used (squeezed z) n ≡ count_fits used z n
squeezed-fits true (pos c) n h = and-true (eqb (claimed (squeezed (pos c))) n) ∙ rw (claim-pos c) (eqb_swap 0 n)
squeezed-fits true (negsuc c) n h = and-true (eqb (claimed (squeezed (negsuc c))) n) ∙ claim-neg c n h
squeezed-fits false (pos c) n h =
    rw (claim-pos c)
    (either c 0
    (λ e. rw e (and-true (eqb 0 n) ∙ eqb_swap 0 n))
    (λ d. rw (ne_eqb c 0 d) (and_no (eqb 0 n) (eqb (squeezed (pos c)) 128) (below? c 128 (λ k. rw (lt-ltb c 128 k) (ne_eqb (128 + c) 128 (omega arith))) (λ k. rw (le-ltb c 128 k))))))
squeezed-fits false (negsuc c) n h =
    and_no (eqb (claimed (squeezed (negsuc c))) n) (eqb (squeezed (negsuc c)) 128)
    (below? c 128 (λ k. rw (lt-ltb c 128 k) (ne_eqb (127 - c) 128 (omega arith))) (λ k. rw (le-ltb c 128 k)))

-- Two runs that overlap are one

pub all-overlap : (f : ℕ → Bool) (m k n : ℕ) → k ≤ m → k + m ≡ n → (all m (λ i. f (0 + i)) && all m (λ i. f (k + i))) ≡ all n f
all-overlap f m k n h e =
    bool_iff _ _
    (λ a. let w = both (all m (λ i. f (0 + i))) _ a in
    all_true n f (λ i hi. below? i m
    (λ q. rw (zero-add i) at (all-at (λ i. f (0 + i)) m i w.0 q))
    (λ q. let r : k + (i - k) ≡ i = omega arith in let l : i - k < m = omega arith in rw r at (all-at (λ i. f (k + i)) m (i - k) w.1 l))))
    (λ a. and_in (all_true m (λ i. f (0 + i)) (λ i q. rw (zero-add i) (all-at f n i a (omega arith)))) (all_true m (λ i. f (k + i)) (λ i q. all-at f n (k + i) a (omega arith))))
