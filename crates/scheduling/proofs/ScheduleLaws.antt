-- Scheduling, composed of moves along the row and stores. Assumes nothing.
use Rattle.std.specs.Prelude.{if◌then◌else◌, None, Option, Some}
use Prim.Native.Nat.{◌<◌, ℕ}
use native.Mathlib.Omega.{arith}
use mathlib.Core.Bool.{Bool, false, true, true≢false}
use mathlib.Core.List.{List, [], ◌∷◌}
use mathlib.Core.Path.{◌∙◌, ◌≡◌, ap, refl, subst, sym}
use lib.Dec.{ltb}
use lib.ListN.{length}
use borrow.Author.Tests.{eq-eqb, ne_eqb}
use Rattle.layout.specs.Stands.{Stands, Tells, Turns}
use Rattle.lists.specs.Lists.{filter, place, put_before, take_out, times, without}
use Rattle.order.specs.Row.{found, placed, put_last}
use Rattle.rules.specs.Schedule.{joining, make_ready, make_wait, reschedule, start_first, switch}
use Rattle.tables.specs.Limits.{process_limit}
use Rattle.tables.specs.Readers.{current_of, currents, line, priority_of, process, ready_list, state_of}
use Rattle.tables.specs.Setters.{in_state, with_order, with_state}
use Rattle.tables.specs.Sound.{Sound}
use Rattle.tables.specs.States.{is_current, is_ready}
use Rattle.tables.specs.declared.Process.{Process}
use Rattle.tables.specs.declared.State.TheVariants.{Current, Ready, Waiting}
use Rattle.tables.specs.declared.Tables.{Tables}
use Rattle.layout.proofs.Compose.{in-turn, with-told}
use Rattle.lists.proofs.Bools.{split}
use Rattle.lists.proofs.ListLaws.{put_before-last, times-filter}
use Rattle.order.proofs.Found.{line-ready, told-nobody, told-somebody}
use Rattle.rules.proofs.Joins.{ready-joined}
use Rattle.tables.proofs.LineLaws.{at_same, line_first}
use Rattle.tables.proofs.Sentences.{current-unique}
use Rattle.tables.proofs.States.{is-current}
use Rattle.scheduling.specs.Running.{Only, Reschedules}

-- Joining

pub ready-turns : (p : ℕ) (x : Process) (a b c : List ℕ) → (p < process_limit → Tells (λ t. process t p) a x) → (p < process_limit → Turns (placed p x.priority) a b) → (p < process_limit → Turns (λ t. with_state t p Ready) b c) → p < process_limit → Turns (λ t. make_ready t p) a c
unfolding joining
ready-turns p x a b c told moved put h =
    with-told (λ t. process t p) a x (told h) (λ y t. with_state (placed p y.priority t) p Ready) c
    (in-turn (placed p x.priority) (λ t. with_state t p Ready) a b c (moved h) (put h))

-- before nobody is last
pub wait-turns : (p s : ℕ) (a b c : List ℕ) → (p < process_limit → Turns (λ t. with_order t (put_last p t.order)) a b) → (p < process_limit → Turns (λ t. with_state t p (Waiting s)) b c) → p < process_limit → Turns (λ t. make_wait t p s) a c
unfolding Turns joining place
wait-turns p s a b c moved put h t st =
    subst (λ (xs : List ℕ). Stands (with_state (with_order t xs) p (Waiting s)) c) (sym (put_before-last p (take_out p t.order))) (put h (with_order t (put_last p t.order)) (moved h t st))

-- Who is current, where nobody but c may be

module _ (c : ℕ) (t : Tables) (o : Only c t) where
  only-current : is_current (state_of t c) ≡ true → currents t ≡ c ∷ []
  only-current h = o.alone ∙ rw h refl

  only-nobody : is_current (state_of t c) ≡ false → currents t ≡ []
  only-nobody h = o.alone ∙ rw h refl

  -- in sound tables c runs
  pub only-runs : Sound t → c ≡ current_of t
  only-runs S =
      split (is_current (state_of t c)) (λ h. sym (current-unique S c h)) (λ h.
      let one : length (currents t) ≡ 1 = S.running.one in
      let none : length (currents t) ≡ 0 = ap length (only-nobody h) in
      absurd (omega arith))

  -- who is current stands in the row once
  once : is_current (state_of t c) ≡ true → times c t.order ≡ 1
  unfolding line times
  once h = (rw h at (sym (times-filter c (λ p. is_current (state_of t p)) t.order))) ∙ ap (times c) (only-current h) ∙ rw (eq-eqb c c refl) refl

  -- joined behind f, who is ready and no lower, c leaves f the first of the list
  first-stays : (f : ℕ) (fs : List ℕ) → c < length t.processes → is_current (state_of t c) ≡ true → ready_list t ≡ f ∷ fs → ltb (priority_of t f) (priority_of t c) ≡ false → (rest : List ℕ) × (ready_list (make_ready t c) ≡ f ∷ rest)
  unfolding without filter put_before
  first-stays f fs hp h e low =
      let other : f ≡ c → ⊥ = λ z. true≢false (sym (line_first t is_ready f fs e) ∙ ap (λ (p : ℕ). is_ready (state_of t p)) z ∙ ap is_ready (is-current (state_of t c) h)) in
      let test : ℕ → Bool = λ x. ltb (priority_of t x) (priority_of t c) in
      (put_before test c (without c fs), ready-joined test t c hp (once h) ∙ rw (e, ne_eqb f c other, low) refl)

-- Rescheduling: who is found is the first of the ready list

module _ (c : ℕ) (a : List ℕ) (r : Option ℕ) (ready : Tells (found 2) a r) where
  pub resched-nobody : r ≡ None → Reschedules c a a c
  unfolding Reschedules reschedule switch
  resched-nobody e t st o = rw (sym (line-ready t) ∙ told-nobody 2 a r ready t st e) (st, only-runs c t o)

  module _ (f : ℕ) (some : r ≡ Some f) (x : Process) (tx : c < process_limit → Tells (λ t. process t c) a x) where
    ready-first : (t : Tables) → Stands t a → (f < process_limit) × (fs : List ℕ) × (ready_list t ≡ f ∷ fs)
    ready-first t st = let w = told-somebody 2 a r ready t st f some in (w.0, w.1, sym (line-ready t) ∙ w.2)

    -- who is made current last runs
    last_runs : (u : Tables) → length u.processes ≡ process_limit → f < process_limit → Sound (with_state u f Current) → f ≡ current_of (with_state u f Current)
    last_runs u l h S = sym (current-unique S f (ap (λ (x : Process). is_current x.state) (at_same u f (in_state Current (process u f)) (omega arith))))

    -- c is current if its slot, as it was read, is
    as_read : (t : Tables) → Stands t a → Only c t → is_current (state_of t c) ≡ is_current x.state
    unfolding Tells
    as_read t st o = ap (λ (z : Process). is_current z.state) (sym (tx o.below t st))

    pub resched-start : (b : List ℕ) → is_current x.state ≡ false → (f < process_limit → Turns (λ t. with_state t f Current) a b) → Reschedules c a b f
    unfolding Reschedules Turns reschedule switch start_first
    resched-start b stopped put t st o =
        let w = ready-first t st in
        rw (w.2, only-nobody c t o (as_read t st o ∙ stopped), w.2) (put w.0 t st, last_runs t st.held.slots w.0)

    module _ (on : is_current x.state ≡ true) (y : Process) (ty : f < process_limit → Tells (λ t. process t f) a y) where
      runs : (t : Tables) → Stands t a → Only c t → is_current (state_of t c) ≡ true
      runs t st o = as_read t st o ∙ on

      test : (t : Tables) → Stands t a → Only c t → ltb y.priority x.priority ≡ ltb (priority_of t f) (priority_of t c)
      unfolding Tells
      test t st o =
          ap (λ (z : Process). ltb z.priority x.priority) (ty (ready-first t st).0 t st)
          ∙ ap (λ (z : Process). ltb (priority_of t f) z.priority) (tx o.below t st)

      -- by the two lines
      opened : (t : Tables) → Stands t a → Only c t → reschedule t ≡ (if ltb y.priority x.priority then t else start_first (make_ready t c) (ready_list (make_ready t c)))
      unfolding reschedule switch
      opened t st o = rw ((ready-first t st).2, only-current c t o (runs t st o), test t st o) refl

      pub resched-stay : ltb y.priority x.priority ≡ true → Reschedules c a a c
      unfolding Reschedules
      resched-stay e t st o = rw (opened t st o, e) (st, only-runs c t o)

      pub resched-switch : (b d : List ℕ) → ltb y.priority x.priority ≡ false → (c < process_limit → Turns (λ t. make_ready t c) a b) → (f < process_limit → Turns (λ t. with_state t f Current) b d) → Reschedules c a d f
      unfolding Reschedules Turns start_first
      resched-switch b d e joined put t st o =
          let w = ready-first t st in
          let u : Stands (make_ready t c) b = joined o.below t st in
          let long : length t.processes ≡ process_limit = st.held.slots in
          let k : c < process_limit = o.below in
          rw (opened t st o, e, (first-stays c t o f w.1 (omega arith) (runs t st o) w.2 (sym (test t st o) ∙ e)).1)
          (put w.0 (make_ready t c) u, last_runs (make_ready t c) u.held.slots w.0)
