-- When a slot is sound: by the test, and as it is written anew. Assumes nothing.
use Prim.Native.Nat.{ℕ, ◌≤◌}
use native.Mathlib.Omega.{arith}
use mathlib.Core.Bool.{true, false, ◌||◌, true≢false}
use mathlib.Core.Logic.{◌≢◌}
use mathlib.Core.Path.{◌≡◌, refl, sym, ◌∙◌}
use lib.Dec.{eqb, ltb, leb}
use borrow.Author.Tests.{eq-eqb, lt-ltb, le-leb, ltb-true, eqb-true, leb-true}
use Rattle.lists.proofs.Bools.{split, either, both, and_in}
use Rattle.tables.specs.declared.State.{State}
use Rattle.tables.specs.declared.Process.{Process}
use Rattle.tables.specs.Limits.{priority_limit}
use Rattle.tables.specs.States.{is_free, is_current, is_ready}
use Rattle.tables.specs.Readers.{free_slot}
use Rattle.tables.specs.Setters.{in_state, new_slot}
use Rattle.tables.specs.Sound.{SlotSound}
use Rattle.tables.specs.Test.{null_fits, slot_fits}

-- The test

-- the null process is current or ready, and its slot is sound
pub null-sound : (x : Process) → null_fits x ≡ true → ((is_current x.state || is_ready x.state) ≡ true) × SlotSound 0 x
null-sound x h =
    let w = both (is_current x.state || is_ready x.state) (eqb x.priority 0) h in
    let z : x.priority ≡ 0 = eqb-true x.priority 0 w.1 in
    (w.0, record { idle = λ e. z; free = λ e. z; live = λ n e. absurd (n refl) })

pub sound-null : (x : Process) → (is_current x.state || is_ready x.state) ≡ true → SlotSound 0 x → null_fits x ≡ true
sound-null x h s = and_in h (eq-eqb x.priority 0 (s.idle refl))

pub fits-sound : (p : ℕ) (x : Process) → p ≢ 0 → slot_fits x ≡ true → SlotSound p x
fits-sound p x n h =
    record {
      idle = λ e. absurd (n e);
      free = λ e. eqb-true x.priority 0 (rw e at h);
      live = λ _ e. let w = both (ltb 0 x.priority) (leb x.priority priority_limit) (rw e at h) in (ltb-true 0 x.priority w.0, leb-true x.priority priority_limit w.1);
    }

pub sound-fits : (p : ℕ) (x : Process) → p ≢ 0 → SlotSound p x → slot_fits x ≡ true
sound-fits p x n s =
    split (is_free x.state)
    (λ e. rw e (eq-eqb x.priority 0 (s.free e)))
    (λ e. let r = s.live n e in rw e (and_in (lt-ltb 0 x.priority r.0) (le-leb x.priority priority_limit r.1)))

pub priority-top : (p : ℕ) (x : Process) → SlotSound p x → x.priority ≤ priority_limit
priority-top p x s =
    either p 0 (λ e. let z = s.idle e in omega arith)
    (λ n. split (is_free x.state) (λ e. let z = s.free e in omega arith) (λ e. (s.live n e).1))

-- Slots as the rules write them

pub free-sound : (p : ℕ) → SlotSound p free_slot
free-sound p = record { idle = λ e. refl; free = λ e. refl; live = λ n e. absurd (true≢false e) }

pub new-sound : (p n : ℕ) → p ≢ 0 → (1 ≤ n) × (n ≤ priority_limit) → SlotSound p (new_slot n)
new-sound p n h r = record { idle = λ e. absurd (h e); free = λ e. absurd (true≢false (sym e)); live = λ _ e. r }

-- a live process in another state
pub state-sound : (p : ℕ) (x : Process) (st : State) → is_free x.state ≡ false → is_free st ≡ false → SlotSound p x → SlotSound p (in_state st x)
state-sound p x st h k s = record { idle = s.idle; free = λ e. absurd (true≢false (sym e ∙ k)); live = λ n e. s.live n h }
