-- The slot of a process is written anew, and its place in the row may change: what stays, and what every line becomes. Assumes nothing.
use Prim.Native.Nat.{ℕ, ◌≤◌, ◌<◌}
use native.Mathlib.Omega.{arith}
use mathlib.Core.Bool.{Bool, true, false, not, ◌&&◌}
use mathlib.Core.Logic.{◌≢◌}
use mathlib.Core.Path.{◌≡◌, refl, ap, ◌∙◌, fun_ext, sym}
use mathlib.Core.List.{List, ◌∷◌}
use lib.Dec.{eqb, ltb}
use lib.ListN.{length, length-set}
use borrow.Author.Tests.{ltb-true, ltb-false, eqb-false, eq-eqb}
use Rattle.lists.specs.Lists.{without, times, Falling}
use Rattle.lists.proofs.Bools.{either, not-true}
use Rattle.lists.proofs.ListLaws.{times-place, length-place, without-first}
use Rattle.lists.proofs.FallingLaws.{falling-filter, falling-ext, falling-put}
use Rattle.tables.specs.declared.State.{State}
use Rattle.tables.specs.declared.State.TheVariants.{Ready, Waiting}
use Rattle.tables.specs.declared.Process.{Process}
use Rattle.tables.specs.declared.Tables.{Tables}
use Rattle.tables.specs.Limits.{process_limit}
use Rattle.tables.specs.States.{is_free, is_ready, waits_on}
use Rattle.tables.specs.Readers.{process, state_of, priority_of, line, ready_list, queue}
use Rattle.tables.specs.Setters.{in_state, with_process}
use Rattle.tables.specs.Sound.{SlotSound, Laid}
use Rattle.tables.proofs.SlotLaws.{state-sound}
use Rattle.tables.proofs.LineLaws.{at_same, at_other, line-leave, live-slot, live-once, line_first, live_below, in-line}
use Rattle.tables.proofs.States.{waits-on}
use Rattle.rules.specs.Schedule.{joining, ready_before, make_ready}
use Rattle.rules.proofs.Joins.{joined_same, joined-other, line-join-other, ready-joined}

-- in t' the slot of p is y, and the rest is as in t but for the places in the row
pub record Moved (t t' : Tables) (p : ℕ) (y : Process) : Type 0 where
  pub same : process t' p ≡ y
  pub other : (x : ℕ) → x ≢ p → process t' x ≡ process t x
  pub leaves : (test : State → Bool) → test y.state ≡ false → line t' test ≡ without p (line t test)
  pub order : (q : ℕ) → times q t'.order ≡ times q t.order
  pub slots : length t'.processes ≡ length t.processes
  pub places : length t'.order ≡ length t.order
  pub semaphores : t'.semaphores ≡ t.semaphores
  pub cursors : (t'.next_semaphore ≡ t.next_semaphore) × (t'.next_process ≡ t.next_process)

-- in t' process p is in state st
abbrev pub Turned : Tables → Tables → ℕ → State → Type 0
Turned t t' p st = Moved t t' p (in_state st (process t p))

pub moved-slot : (t : Tables) (p : ℕ) (y : Process) → p < length t.processes → Moved t (with_process t p y) p y
moved-slot t p y hp =
    record {
      same = at_same t p y hp;
      other = at_other t p y;
      leaves = λ test h. line-leave t p y test hp h;
      order = λ q. refl;
      places = refl;
      slots = length-set t.processes p y;
      semaphores = refl;
      cursors = (refl, refl);
    }

pub moved-join : (t : Tables) (p : ℕ) (before : ℕ → Bool) (st : State) → p < length t.processes → times p t.order ≡ 1 → Turned t (joining t p before st) p st
unfolding joining
moved-join t p before st hp h1 =
    record {
      same = joined_same t p before st is_free hp h1;
      other = joined-other t p before st is_free hp h1;
      leaves = λ test h. line-join-other t p before st test hp h1 h;
      order = λ q. times-place q before p t.order h1;
      places = length-place before p t.order h1;
      slots = length-set t.processes p (in_state st (process t p));
      semaphores = refl;
      cursors = (refl, refl);
    }

-- a turn keeps every priority
pub turned-priority : {t t' : Tables} {p : ℕ} {st : State} → Turned t t' p st → (x : ℕ) → priority_of t' x ≡ priority_of t x
turned-priority {t} {t'} {p} m x = either x p (λ e. rw e (ap (λ (r : Process). r.priority) m.same)) (λ e. ap (λ (r : Process). r.priority) (m.other x e))

-- Laid tables

module _ {t : Tables} (l : Laid t) where
  -- laid tables stay so where the slot written is sound and the ready list falls
  pub laid-moved : {t' : Tables} {p : ℕ} {y : Process} → Moved t t' p y → SlotSound p y → Falling (priority_of t') (ready_list t') → Laid t'
  laid-moved {t'} {p} {y} m s f =
      record {
        slots = m.slots ∙ l.slots;
        entries = ap length m.semaphores ∙ l.entries;
        order = λ q. m.order q ∙ l.order q;
        places = m.places ∙ l.places;
        falling = f;
        slot = λ x. either x p (λ e. rw (e, m.same) s) (λ e. rw (m.other x e) (l.slot x));
        cursors = (rw m.cursors.0 l.cursors.0, rw m.cursors.1 l.cursors.1);
      }

  -- a live process takes another state, and is still live
  pub laid-turned : {t' : Tables} {p : ℕ} {st : State} → Turned t t' p st → is_free st ≡ false → is_free (state_of t p) ≡ false → Falling (priority_of t') (ready_list t') → Laid t'
  laid-turned {p = p} {st = st} m hs h f = laid-moved m (state-sound p (process t p) st h hs (l.slot p)) f

  -- a process that leaves the ready list, or wasn't on it
  pub falling-left : {t' : Tables} {p : ℕ} {y : Process} → Moved t t' p y → is_ready y.state ≡ false → Falling (priority_of t') (ready_list t')
  unfolding without
  falling-left {t'} {p} m h =
      rw (m.leaves is_ready h)
      (falling-ext (priority_of t) (priority_of t') (λ x. not (eqb x p)) (λ x e. ap (λ (r : Process). r.priority) (m.other x (eqb-false x p (not-true (eqb x p) e)))) (ready_list t)
      (falling-filter (priority_of t) (λ x. not (eqb x p)) (ready_list t) l.falling))

  -- a process that joins it where its priority says
  pub falling-joined : (low : ℕ → Bool) (p : ℕ) → p < process_limit → ((x : ℕ) → low x ≡ true → priority_of t x ≤ priority_of t p) → ((x : ℕ) → low x ≡ false → priority_of t p ≤ priority_of t x) → Falling (priority_of (ready_before low t p)) (ready_list (ready_before low t p))
  unfolding without
  falling-joined low p hp up down =
      rw (fun_ext (turned-priority (moved-join t p (λ x. is_ready (state_of t x) && low x) Ready (live-slot l p hp) (live-once l p hp))), ready-joined low t p (live-slot l p hp) (live-once l p hp))
      (falling-put (priority_of t) low p up down (without p (ready_list t))
      (falling-filter (priority_of t) (λ x. not (eqb x p)) (ready_list t) l.falling))

  pub falling-ready : (p : ℕ) → p < process_limit → Falling (priority_of (make_ready t p)) (ready_list (make_ready t p))
  falling-ready p hp =
      falling-joined (λ x. ltb (priority_of t x) (priority_of t p)) p hp
      (λ x e. let k : priority_of t x < priority_of t p = ltb-true (priority_of t x) (priority_of t p) e in omega arith)
      (λ x e. ltb-false (priority_of t x) (priority_of t p) e)

  -- p becomes ready

  pub ready_moved : (p : ℕ) → p < process_limit → Turned t (make_ready t p) p Ready
  ready_moved p below = moved-join t p _ Ready (live-slot l p below) (live-once l p below)

  pub laid-ready : (p : ℕ) → p < process_limit → is_free (state_of t p) ≡ false → Laid (make_ready t p)
  laid-ready p below h = laid-turned (ready_moved p below) refl h (falling-ready p below)

-- The head of a queue

module _ {t : Tables} (l : Laid t) (s f : ℕ) (fs : List ℕ) (e : queue t s ≡ f ∷ fs) where
  pub head-waits : state_of t f ≡ Waiting s
  head-waits = waits-on (state_of t f) s (line_first t (waits_on s) f fs e)

  pub head-below : f < process_limit
  head-below = live_below l f (ap is_free head-waits)

  -- when it becomes ready the rest is left
  pub head-leaves : queue (make_ready t f) s ≡ fs
  head-leaves =
      let once : times f (f ∷ fs) ≡ 1 = ap (times f) (sym e) ∙ in-line l f (waits_on s) head-below ∙ rw (head-waits, eq-eqb s s refl) in
      (ready_moved l f head-below).leaves (waits_on s) refl ∙ ap (without f) e ∙ without-first f fs once
