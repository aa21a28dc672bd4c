-- What rescheduling leaves behind. Callers use `settled` and never the rule itself. Assumes nothing.
use Prim.Native.Nat.{ℕ, ◌≤◌, ◌<◌}
use native.Mathlib.Omega.{arith}
use mathlib.Core.Bool.{Bool, true, false, ◌||◌, true≢false}
use mathlib.Core.List.{List, [], ◌∷◌, cons≢nil}
use mathlib.Core.Logic.{◌≢◌}
use mathlib.Core.Path.{◌≡◌, refl, sym, ap, ◌∙◌}
use lib.Dec.{eqb, ltb}
use lib.ListN.{length}
use borrow.Author.Tests.{ltb-true, eq-eqb, ne_eqb}
use Rattle.lists.specs.Lists.{without, times, first_or, first, Falling}
use Rattle.lists.proofs.Bools.{split, either}
use Rattle.lists.proofs.ListLaws.{filter-ext, filter-only, filter_none, times-length, put_before-some, without-only, one-or-none}
use Rattle.lists.proofs.FallingLaws.{at_most-member}
use Rattle.tables.specs.declared.State.{State}
use Rattle.tables.specs.declared.State.TheVariants.{Current, Ready}
use Rattle.tables.specs.declared.Process.{Process}
use Rattle.tables.specs.declared.Tables.{Tables}
use Rattle.tables.specs.Limits.{process_limit}
use Rattle.tables.specs.States.{is_free, is_current, is_ready, waits_on}
use Rattle.tables.specs.Readers.{state_of, priority_of, line, ready_list, queue, currents, current_of}
use Rattle.tables.specs.Setters.{with_state}
use Rattle.tables.specs.Sound.{Laid, Running}
use Rattle.tables.proofs.States.{is-current, is-ready}
use Rattle.tables.proofs.LineLaws.{line-absent, line_first, live_below, live-slot, live-once, in-line-live}
use Rattle.rules.specs.Schedule.{ready_before, start_first, switch, reschedule}
use Rattle.rules.specs.Calls.{Deed, finish}
use Rattle.rules.proofs.Joins.{ready-joined}
use Rattle.rules.proofs.Moves.{Moved, Turned, moved-slot, moved-join, turned-priority, laid-turned, falling-left, falling-ready}

-- process 0 is current or ready
abbrev pub Zero : Tables → Type 0
Zero t = (is_current (state_of t 0) || is_ready (state_of t 0)) ≡ true

-- t' is sound but for the queues, and those are as in t
pub record Settled (t t' : Tables) : Type 0 where
  pub laid : Laid t'
  pub running : Running t'
  pub semaphores : t'.semaphores ≡ t.semaphores
  pub queues : (s : ℕ) → queue t' s ≡ queue t s

-- Lines

-- a line that neither the old state nor the new one is in
pub line_kept : {t t' : Tables} {p : ℕ} {y : Process} → Moved t t' p y → (test : State → Bool) → test y.state ≡ false → test (state_of t p) ≡ false → line t' test ≡ line t test
line_kept {t} {t'} {p} m test h k = m.leaves test h ∙ line-absent t p test k

-- p becomes current where nobody is
pub line-enter : (t : Tables) (p : ℕ) (st : State) (test : State → Bool) → Turned t (with_state t p st) p st → times p t.order ≡ 1 → test st ≡ true → line t test ≡ [] → line (with_state t p st) test ≡ p ∷ []
unfolding line
line-enter t p st test m h1 h e =
    filter-ext t.order
    (λ x. either x p
    (λ k. rw (k, eq-eqb p p refl) (ap (λ (r : Process). test r.state) m.same ∙ h))
    (λ k. rw (ne_eqb x p k) (ap (λ (r : Process). test r.state) (m.other x k))))
    ∙ filter_none (λ x. test (state_of t x)) (λ x. eqb x p) t.order e
    ∙ filter-only p t.order h1

-- Process 0

pub zero-other : {t t' : Tables} {p : ℕ} {y : Process} → Moved t t' p y → 0 ≢ p → Zero t → Zero t'
zero-other m h z = ap (λ (r : Process). is_current r.state || is_ready r.state) (m.other 0 h) ∙ z

pub zero-moved : {t t' : Tables} {p : ℕ} {y : Process} → Moved t t' p y → (is_current y.state || is_ready y.state) ≡ true → Zero t → Zero t'
zero-moved {p = p} m h z = either 0 p (λ e. rw e (ap (λ (r : Process). is_current r.state || is_ready r.state) m.same ∙ h)) (λ e. zero-other m e z)

-- The first of the ready list

pub ready-top : {t : Tables} → Laid t → (f : ℕ) (fs : List ℕ) → ready_list t ≡ f ∷ fs → (p : ℕ) → is_ready (state_of t p) ≡ true → priority_of t p ≤ priority_of t f
ready-top {t} l f fs e p h =
    let n : times p (ready_list t) ≡ 1 = in-line-live l p is_ready refl ∙ rw h in
    let fall : Falling (priority_of t) (f ∷ fs) = rw e at l.falling in
    let n' : times p (f ∷ fs) ≡ 1 = rw e at n in
    at_most-member (priority_of t) (priority_of t f) (f ∷ fs) p (omega arith, fall.0) (omega arith)

module _ (t : Tables) (l : Laid t) (none : currents t ≡ []) (z : Zero t) (f : ℕ) (fs : List ℕ) (e : ready_list t ≡ f ∷ fs) where
  f-ready : state_of t f ≡ Ready
  f-ready = is-ready (state_of t f) (line_first t is_ready f fs e)

  f-below : f < process_limit
  f-below = live_below l f (ap is_free f-ready)

  f-moved : Turned t (with_state t f Current) f Current
  f-moved = moved-slot t f _ (live-slot l f f-below)

  f-current : currents (with_state t f Current) ≡ f ∷ []
  f-current = line-enter t f Current is_current f-moved (live-once l f f-below) refl none

  f-top : (p : ℕ) → state_of (with_state t f Current) p ≡ Ready → priority_of t p ≤ priority_of t f
  f-top p k =
      either p f (λ d. rw d (omega arith)) (λ d. ready-top l f fs e p (ap is_ready (ap (λ (r : Process). r.state) (sym (f-moved.other p d)) ∙ k)))

  pub dispatch-settled : Settled t (with_state t f Current)
  unfolding first_or
  dispatch-settled =
      let after : Tables = with_state t f Current in
      record {
        laid = laid-turned l f-moved refl (ap is_free f-ready) (falling-left l f-moved refl);
        running = record {
          one = ap length f-current;
          zero = zero-moved f-moved refl z;
          top = λ p k.
              let a : priority_of after p ≡ priority_of t p = turned-priority f-moved p in
              let b : priority_of after (current_of after) ≡ priority_of t f = ap (λ (c : List ℕ). priority_of after (first c)) f-current ∙ turned-priority f-moved f in
              omega (arith, f-top p k);
        };
        semaphores = refl;
        queues = λ s. line_kept f-moved (waits_on s) refl (ap (waits_on s) f-ready);
      }

pub start-settled : (t : Tables) → Laid t → currents t ≡ [] → Zero t → (r : List ℕ) → ready_list t ≡ r → r ≢ [] → Settled t (start_first t r)
unfolding start_first
start-settled t l none z [] e h = absurd (h refl)
start-settled t l none z (f ∷ fs) e h = dispatch-settled t l none z f fs e

pub settled-trans : {t t' t'' : Tables} → t'.semaphores ≡ t.semaphores → ((s : ℕ) → queue t' s ≡ queue t s) → Settled t' t'' → Settled t t''
settled-trans a b g = record { laid = g.laid; running = g.running; semaphores = g.semaphores ∙ a; queues = λ s. g.queues s ∙ b s }

-- nothing happens
pub settled-still : {t : Tables} → Laid t → Running t → Settled t t
settled-still l r = record { laid = l; running = r; semaphores = refl; queues = λ s. refl }

-- The whole rule

module _ (t : Tables) (l : Laid t) (few : length (currents t) ≤ 1) (z : Zero t) where
  nobody : ready_list t ≡ [] → (p : ℕ) → is_ready (state_of t p) ≡ false
  unfolding times
  nobody e p =
      split (is_ready (state_of t p))
      (λ h.
      let n : times p (ready_list t) ≡ 1 = in-line-live l p is_ready refl ∙ rw h in
      let m : times p (ready_list t) ≡ 0 = ap (times p) e in
      absurd (omega arith))
      (λ h. h)

  -- nobody is ready
  alone : ready_list t ≡ [] → Running t
  alone e =
      record {
        one = split (is_current (state_of t 0))
            (λ h. let n : times 0 (currents t) ≡ 1 = in-line-live l 0 is_current refl ∙ rw h in omega (arith, times-length 0 (currents t)))
            (λ h. absurd (true≢false (sym z ∙ rw (h, nobody e 0))));
        zero = z;
        top = λ p h. absurd (true≢false (sym (ap is_ready h) ∙ nobody e p));
      }

  -- c is current, and above the first ready one
  above : (c f : ℕ) (fs cs : List ℕ) → currents t ≡ c ∷ cs → ready_list t ≡ f ∷ fs → priority_of t f < priority_of t c → Running t
  unfolding first_or
  above c f fs cs k e h =
      record {
        one = let a : length (currents t) ≡ length (c ∷ cs) = ap length k in omega arith;
        zero = z;
        top = λ p d.
            let b : priority_of t (current_of t) ≡ priority_of t c = ap (λ (r : List ℕ). priority_of t (first r)) k in
            let a : priority_of t p ≤ priority_of t f = ready-top l f fs e p (ap is_ready d) in
            omega arith;
      }

  put_back : (low : ℕ → Bool) (c : ℕ) (cs : List ℕ) → currents t ≡ c ∷ cs → (c < process_limit → Falling (priority_of (ready_before low t c)) (ready_list (ready_before low t c))) → Settled t (start_first (ready_before low t c) (ready_list (ready_before low t c)))
  put_back low c cs k fall =
      let here : state_of t c ≡ Current = is-current (state_of t c) (line_first t is_current c cs k) in
      let below : c < process_limit = live_below l c (ap is_free here) in
      let m : Turned t (ready_before low t c) c Ready = moved-join t c _ Ready (live-slot l c below) (live-once l c below) in
      let gone : currents (ready_before low t c) ≡ [] =
      m.leaves is_current refl ∙ ap (without c) (k ∙ ap (λ (r : List ℕ). c ∷ r) (one-or-none c cs (rw k at few))) ∙ without-only c in
      settled-trans m.semaphores (λ s. line_kept m (waits_on s) refl (ap (waits_on s) here))
      (start-settled (ready_before low t c) (laid-turned l m refl (ap is_free here) (fall below)) gone (zero-moved m refl z) (ready_list (ready_before low t c)) refl
      (λ h. put_before-some low c (without c (ready_list t)) (sym (ready-joined low t c (live-slot l c below) (live-once l c below)) ∙ h)))

  by_cases : (r c : List ℕ) → ready_list t ≡ r → currents t ≡ c → Settled t (switch t r c)
  unfolding switch
  by_cases [] cs e k = settled-still l (alone e)
  by_cases (f ∷ fs) [] e k = start-settled t l k z (ready_list t) refl (λ h. cons≢nil (sym e ∙ h))
  by_cases (f ∷ fs) (c ∷ cs) e k =
      split (ltb (priority_of t f) (priority_of t c))
      (λ d. rw d (settled-still l (above c f fs cs k e (ltb-true (priority_of t f) (priority_of t c) d))))
      (λ d. rw d (put_back (λ x. ltb (priority_of t x) (priority_of t c)) c cs k (falling-ready l c)))

  pub settled : Settled t (reschedule t)
  unfolding reschedule
  settled = by_cases (ready_list t) (currents t) refl refl

-- What a call hands on: sound but for the queues, and for who runs if a reschedule follows
pub record Prepared (d : Deed) : Type 0 where
  pub laid : Laid d.tables
  pub few : length (currents d.tables) ≤ 1
  pub zero : Zero d.tables
  pub runs : d.reschedules ≡ false → Running d.tables

pub finished : {d : Deed} → Prepared d → Settled d.tables (finish d).tables
finished {d} P = split d.reschedules (λ e. rw e (settled d.tables P.laid P.few P.zero)) (λ e. rw e (settled-still P.laid (P.runs e)))
