-- Who is free or suspended, and isn't spoken of, keeps its slot. Assumes nothing.
use Prim.Native.Nat.{ℕ, ◌<◌}
use native.Mathlib.Omega.{arith}
use mathlib.Core.Bool.{true, false, ◌||◌, true≢false}
use mathlib.Core.List.{List, [], ◌∷◌}
use mathlib.Core.Logic.{◌≢◌}
use mathlib.Core.Path.{◌≡◌, refl, sym, ap, ◌∙◌}
use lib.Dec.{eqb, ltb}
use lib.ListN.{length, drop}
use lib.IntN.{ℤ, suc_ℤ, pred_ℤ, nat_abs}
use borrow.Author.Tests.{eqb-false}
use Rattle.lists.specs.Lists.{times, first_or, first}
use Rattle.tables.specs.declared.State.{State}
use Rattle.tables.specs.declared.Process.{Process}
use Rattle.tables.specs.declared.Tables.{Tables}
use Rattle.tables.specs.Limits.{process_limit}
use Rattle.tables.specs.States.{is_free, is_current, is_ready, is_suspended, awaits, waits_on}
use Rattle.tables.specs.Readers.{process, state_of, priority_of, count_of, ready_list, queue, currents, current_of}
use Rattle.tables.specs.Setters.{with_process, with_count}
use Rattle.tables.specs.Sound.{Sound}
use Rattle.lists.proofs.Bools.{split}
use Rattle.tables.proofs.States.{is_free_lem, is-suspended}
use Rattle.tables.proofs.LineLaws.{at_same, at_other, line_first, in-line-live}
use Rattle.tables.proofs.Sentences.{current-is}
use Rattle.rules.specs.Schedule.{joining, make_ready, make_all_ready, make_wait, start_first, switch, reschedule}
use Rattle.rules.specs.declared.Call.{Call}
use Rattle.rules.specs.declared.Call.TheVariants.{Wait, Signal, MakeSemaphore, Delete, Reset, MakeProcess, Resume, Suspend, Kill, Yield, Count}
use Rattle.rules.specs.Calls.{below0, free_slots, Deed, Accepted, deed, stop, finish, step}
use Rattle.rules.proofs.WaitSignal.{first-waiter}
use Rattle.telling.specs.Telling.{PassesBy}
use Rattle.rules.proofs.Refusals.{step-cases, branch}
use Rattle.telling.proofs.Fields.{kill-spares, not_named}

-- Who is neither ready nor current keeps its slot at a reschedule

start-slot : (t : Tables) (r : List ℕ) (x : ℕ) → ready_list t ≡ r → is_ready (state_of t x) ≡ false → process (start_first t r) x ≡ process t x
unfolding start_first
start-slot t [] x e h = refl
start-slot t (f ∷ fs) x e h = at_other t f _ x (λ d. true≢false (sym (line_first t is_ready f fs e) ∙ rw d at h))

pub join_slot : (t : Tables) (c x : ℕ) → x ≢ c → process (make_ready t c) x ≡ process t x
unfolding joining
join_slot t c x h = at_other t c _ x h

pub wait_slot : (t : Tables) (c s x : ℕ) → x ≢ c → process (make_wait t c s) x ≡ process t x
unfolding joining
wait_slot t c s x h = at_other t c _ x h

pub slot_kept : (t : Tables) (x : ℕ) → is_ready (state_of t x) ≡ false → is_current (state_of t x) ≡ false → process (reschedule t) x ≡ process t x
unfolding reschedule switch
slot_kept t x h k = go (ready_list t) (currents t) refl refl
  where
    go : (r c : List ℕ) → ready_list t ≡ r → currents t ≡ c → process (switch t r c) x ≡ process t x
    go [] c e d = refl
    go (f ∷ fs) [] e d = start-slot t (ready_list t) x refl h
    go (f ∷ fs) (c ∷ cs) e d =
        let j = join_slot t c x (λ z. true≢false (sym (line_first t is_current c cs d) ∙ rw z at k)) in
        split (ltb (priority_of t f) (priority_of t c)) (λ b. rw b)
        (λ b. rw b (start-slot (make_ready t c) (ready_list (make_ready t c)) x refl (ap (λ (r : Process). is_ready r.state) j ∙ h) ∙ j))

-- what is written into the slot of a process that stops stands there afterwards
pub slot-stopped : (v : ℤ) (t : Tables) (p : ℕ) (y : Process) → p < length t.processes → is_ready y.state ≡ false → is_current y.state ≡ false → process (finish (stop v t p y)).tables p ≡ y
slot-stopped v t p y below hr hc =
    let here : process (with_process t p y) p ≡ y = at_same t p y below in
    split (is_current (state_of t p))
    (λ b. rw b (slot_kept (with_process t p y) p (ap (λ (r : Process). is_ready r.state) here ∙ hr) (ap (λ (r : Process). is_current r.state) here ∙ hc) ∙ here))
    (λ b. rw b here)

-- Who is neither ready nor current, and waits on nothing

all-ready-slot : (ps : List ℕ) (t : Tables) (x : ℕ) → times x ps ≡ 0 → process (make_all_ready t ps) x ≡ process t x
unfolding make_all_ready times
all-ready-slot [] t x h = refl
all-ready-slot (p ∷ ps) t x h =
    split (eqb p x) (λ e. let k = rw e at h in absurd (omega arith))
    (λ e. all-ready-slot ps (make_ready t p) x (rw e at h) ∙ join_slot t p x (λ d. eqb-false p x e (sym d)))

-- free or suspended
abbrev Quiet : Tables → ℕ → Type 0
Quiet t x = (is_free (state_of t x) || is_suspended (state_of t x)) ≡ true

quiet-not : (st : State) → (is_free st || is_suspended st) ≡ true → (is_ready st ≡ false) × (is_current st ≡ false) × ((s : ℕ) → waits_on s st ≡ false)
quiet-not st h = split (is_free st) (λ e. rw (is_free_lem st e) (refl, refl, λ s. refl)) (λ e. rw (is-suspended st (rw e at h)) (refl, refl, λ s. refl))

module _ {t : Tables} (S : Sound t) (x : ℕ) (q : Quiet t x) where
  not-waiting : (s : ℕ) → times x (queue t s) ≡ 0
  not-waiting s = in-line-live S.laid x (waits_on s) refl ∙ rw ((quiet-not (state_of t x) q).2 s)

  not-caller : x ≢ current_of t
  not-caller e = true≢false (sym (ap is_current (current-is S.running)) ∙ ap (λ (p : ℕ). is_current (state_of t p)) (sym e) ∙ (quiet-not (state_of t x) q).1)

  -- the head of a queue that isn't empty
  not-head : (s : ℕ) → below0 (count_of t s) ≡ true → x ≢ first (queue t s)
  unfolding first_or times
  not-head s h e =
      let waits = line_first t (waits_on s) (first (queue t s)) (drop 1 (queue t s)) (first-waiter (count_of t s) (queue t s) h (S.queued.counted s)) in
      true≢false (sym waits ∙ ap (λ (p : ℕ). waits_on s (state_of t p)) (sym e) ∙ (quiet-not (state_of t x) q).2 s)

  deed-slot : (c : Call) → PassesBy t c x → Accepted t c → process (deed t c).tables x ≡ process t x
  deed-slot (Wait a) h k =
      let s : ℕ = nat_abs a in
      branch (λ d. process d.tables x ≡ process t x) (below0 (pred_ℤ (count_of t s))) _ _ (λ e. wait_slot (with_count t s (pred_ℤ (count_of t s))) (current_of t) s x not-caller) (λ e. refl)
  deed-slot (Signal a) h k =
      let s : ℕ = nat_abs a in
      branch (λ d. process d.tables x ≡ process t x) (below0 (count_of t s)) _ _ (λ e. join_slot (with_count t s (suc_ℤ (count_of t s))) (first (queue t s)) x (not-head s e)) (λ e. refl)
  deed-slot (MakeSemaphore a) h k = refl
  deed-slot (Delete a) h k = all-ready-slot (queue t (nat_abs a)) _ x (not-waiting (nat_abs a))
  deed-slot (Reset a b) h k = all-ready-slot (queue t (nat_abs a)) _ x (not-waiting (nat_abs a))
  deed-slot (MakeProcess a) h k = at_other t (first (free_slots t)) _ x (h.spares.unmade a refl)
  deed-slot (Resume a) h k = join_slot t (nat_abs a) x (not_named process_limit Resume a x k.0 h.unresumed)
  deed-slot (Suspend a) h k = at_other t (nat_abs a) _ x (not_named process_limit Suspend a x k.0 h.unsuspended)
  deed-slot (Kill a) h k = kill-spares t (nat_abs a) (awaits (state_of t (nat_abs a))) x (not_named process_limit Kill a x k.0 h.spares.unkilled)
  deed-slot Yield h k = refl
  deed-slot (Count a) h k = refl

  finish-slot : (d : Deed) → process d.tables x ≡ process t x → process (finish d).tables x ≡ process t x
  finish-slot d e =
      let still = quiet-not (state_of t x) q in
      split d.reschedules
      (λ b. rw b (slot_kept d.tables x (ap (λ (r : Process). is_ready r.state) e ∙ still.0) (ap (λ (r : Process). is_current r.state) e ∙ still.1) ∙ e))
      (λ b. rw b e)

  pub slot-stays : (c : Call) → PassesBy t c x → process (step t c).tables x ≡ process t x
  slot-stays c h = step-cases t (λ o. process o.tables x ≡ process t x) (λ n. refl) c (λ k. finish-slot (deed t c) (deed-slot c h k))
