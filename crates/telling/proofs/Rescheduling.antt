-- The paper's rule of rescheduling, told of the ready list and of who is current. Assumes nothing.
use Prim.Native.Nat.{ℕ, ◌≤◌, ◌<◌}
use native.Mathlib.Omega.{arith}
use mathlib.Core.Bool.{false}
use mathlib.Core.List.{List, [], ◌∷◌}
use mathlib.Core.Path.{◌≡◌, refl, ap, ◌∙◌}
use lib.Dec.{eqb, ltb}
use borrow.Author.Tests.{lt-ltb, le-ltb, ltb-true, ltb-false, eqb-true}
use Rattle.lists.specs.Lists.{put_before, times, Falling}
use Rattle.lists.proofs.FallingLaws.{at_most-member}
use Rattle.lists.proofs.Bools.{split}
use Rattle.tables.specs.declared.Tables.{Tables}
use Rattle.tables.specs.Limits.{process_limit}
use Rattle.tables.specs.States.{is_ready}
use Rattle.tables.specs.Readers.{state_of, priority_of, ready_list, currents}
use Rattle.tables.specs.Sound.{Laid}
use Rattle.rules.specs.Schedule.{make_ready, switch, reschedule}
use Rattle.telling.specs.Telling.{seats, behind, PutBehind, head_runs, reseat}
use Rattle.telling.proofs.Seats.{ready-behind, seats-reschedule, reseat-nobody}

-- put so, p stands behind every entry whose rank is equal or higher, and before the others
pub behind-put : (rank : ℕ → ℕ) (p : ℕ) (xs : List ℕ) → Falling rank xs → PutBehind rank p xs (behind rank p xs)
unfolding put_before times
behind-put rank p [] f = record { front = []; back = []; was = refl; is = refl; higher = λ x h. absurd (omega arith); lower = λ x h. absurd (omega arith) }
behind-put rank p (x ∷ xs) f =
    split (ltb (rank x) (rank p))
    (λ e.
    let k : rank x < rank p = ltb-true (rank x) (rank p) e in
    let at_most : (y : ℕ) → 1 ≤ times y (x ∷ xs) → rank y ≤ rank x = λ y h. at_most-member rank (rank x) (x ∷ xs) y (omega arith, f.0) h in
    rw e (record { front = []; back = x ∷ xs; was = refl; is = refl; higher = λ y h. absurd (omega arith); lower = λ y h. let m = at_most y h in omega arith }))
    (λ e.
    let r = behind-put rank p xs f.1 in
    rw e
    (record {
      front = x ∷ r.front;
      back = r.back;
      was = ap (λ (l : List ℕ). x ∷ l) r.was;
      is = ap (λ (l : List ℕ). x ∷ l) r.is;
      higher = λ y h. split (eqb x y) (λ d. rw (eqb-true x y d) at (ltb-false (rank x) (rank p) e)) (λ d. r.higher y (rw d at h));
      lower = r.lower;
    }))

-- a process put on the ready list goes behind every entry whose priority is equal or higher
pub ready-put : {t : Tables} → Laid t → (p : ℕ) → p < process_limit → is_ready (state_of t p) ≡ false → PutBehind (priority_of t) p (ready_list t) (ready_list (make_ready t p))
ready-put {t} l p below h = rw (ready-behind l p below h) (behind-put (priority_of t) p (ready_list t) l.falling)

-- an empty ready list: nothing changes
pub reschedule-empty : (t : Tables) → ready_list t ≡ [] → reschedule t ≡ t
unfolding reschedule switch
reschedule-empty t e = rw e

-- the current process is above the first ready one: nothing changes
pub reschedule-higher : (t : Tables) (f c : ℕ) (fs cs : List ℕ) → ready_list t ≡ f ∷ fs → currents t ≡ c ∷ cs → priority_of t f < priority_of t c → reschedule t ≡ t
unfolding reschedule switch
reschedule-higher t f c fs cs e k h = rw (e, k) (rw (lt-ltb (priority_of t f) (priority_of t c) h))

-- otherwise the current process is put behind its equals, and the first of that list runs
pub reschedule-switches : {t : Tables} → Laid t → (f c : ℕ) (fs : List ℕ) → ready_list t ≡ f ∷ fs → currents t ≡ c ∷ [] → priority_of t c ≤ priority_of t f → seats (reschedule t) ≡ head_runs (behind (priority_of t) c (f ∷ fs))
unfolding reseat
reschedule-switches {t} l f c fs e k h = seats-reschedule l (rw k (omega arith)) ∙ rw (e, k, le-ltb (priority_of t f) (priority_of t c) h)

-- nobody is current any more: the first of the ready list runs
pub reschedule-starts : {t : Tables} → Laid t → currents t ≡ [] → seats (reschedule t) ≡ head_runs (ready_list t)
reschedule-starts {t} l k = seats-reschedule l (rw k (omega arith)) ∙ rw k (reseat-nobody (priority_of t) (ready_list t))
