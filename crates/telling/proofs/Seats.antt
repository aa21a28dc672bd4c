-- What each step of a call does to the seats: who is ready, in order, and who runs. Assumes nothing.
use Rattle.std.specs.Prelude.{if◌then◌else◌}
use Prim.Native.Nat.{ℕ, ◌≤◌, ◌<◌}
use mathlib.Core.Bool.{true, false, not}
use mathlib.Core.List.{List, [], ◌∷◌}
use mathlib.Core.Logic.{◌≢◌}
use mathlib.Core.Path.{◌≡◌, refl, sym, ap, ◌∙◌, fun_ext}
use lib.Dec.{ltb}
use lib.IntN.{ℤ, pos}
use lib.ListN.{length, drop}
use Rattle.lists.specs.Lists.{without, times, is_empty, first_or, first}
use Rattle.lists.proofs.ListLaws.{without-only, one-or-none, without-first}
use Rattle.lists.proofs.Bools.{split}
use Rattle.tables.specs.declared.State.TheVariants.{Current, Ready, Suspended, Waiting}
use Rattle.tables.specs.declared.Process.{Process}
use Rattle.tables.specs.declared.Semaphore.{Semaphore}
use Rattle.tables.specs.declared.Tables.{Tables}
use Rattle.tables.specs.Limits.{process_limit}
use Rattle.tables.specs.States.{is_free, is_current, is_ready}
use Rattle.tables.specs.Readers.{state_of, priority_of, is_used, count_of, line, ready_list, queue, currents, current_of}
use Rattle.tables.specs.Setters.{with_cursors, with_process, with_semaphore, with_state, with_count}
use Rattle.tables.specs.Sound.{Laid, Sound}
use Rattle.tables.proofs.States.{is-current, is-ready}
use Rattle.tables.proofs.LineLaws.{line-leave, line-absent, line_first, live_below, live-slot, live-once, in-line}
use Rattle.tables.proofs.Sentences.{current-only, current-is, current-below}
use Rattle.rules.specs.Schedule.{make_ready, make_all_ready, make_wait, start_first, switch, reschedule}
use Rattle.rules.specs.Calls.{below0, switching, release, stop, finish}
use Rattle.telling.specs.Telling.{Seats, seats, seated, behind, all_behind, head_runs, reseat, released}
use Rattle.rules.proofs.Moves.{Turned, moved-slot, moved-join, turned-priority, ready_moved, laid-ready, head-waits, head-below, head-leaves}
use Rattle.rules.proofs.Joins.{ready-joined}
use Rattle.rules.proofs.Resched.{line_kept, line-enter, Prepared}
use Rattle.rules.proofs.Effects.{line-entry, laid-entry}
use Rattle.rules.proofs.WaitSignal.{wait-prepared, signal-prepared, first-waiter}
use Rattle.rules.proofs.Release.{release-prepared}
use Rattle.rules.proofs.Slots.{resume-prepared, yield-prepared}
use Rattle.telling.proofs.Fields.{all-ready-keeps, priority-apart}

seats-of : {r r' c c' : List ℕ} → r' ≡ r → c' ≡ c → seated r' c' ≡ seated r c
seats-of e k = rw (e, k)

pub seats-entry : (t : Tables) (s : ℕ) (x : Semaphore) → seats (with_semaphore t s x) ≡ seats t
unfolding line
seats-entry t s x = refl

pub seats-cursors : (t : Tables) (s p : ℕ) → seats (with_cursors t s p) ≡ seats t
unfolding line
seats-cursors t s p = refl

-- a slot is written anew, neither ready nor current
pub seats-set : (t : Tables) (p : ℕ) (y : Process) → p < length t.processes → is_ready y.state ≡ false → is_current y.state ≡ false
    → seats (with_process t p y) ≡ seated (without p (ready_list t)) (without p (currents t))
seats-set t p y hp hr hc = seats-of (line-leave t p y is_ready hp hr) (line-leave t p y is_current hp hc)

-- behind every ready one of equal or higher priority
pub ready-behind : {t : Tables} → Laid t → (p : ℕ) → p < process_limit → is_ready (state_of t p) ≡ false → ready_list (make_ready t p) ≡ behind (priority_of t) p (ready_list t)
ready-behind {t} l p below h =
    ready-joined (λ x. ltb (priority_of t x) (priority_of t p)) t p (live-slot l p below) (live-once l p below)
    ∙ ap (behind (priority_of t) p) (line-absent t p is_ready h)

-- p becomes ready that was neither ready nor current
pub seats-make_ready : {t : Tables} (l : Laid t) (p : ℕ) → p < process_limit → is_ready (state_of t p) ≡ false → is_current (state_of t p) ≡ false → seats (make_ready t p) ≡ seated (behind (priority_of t) p (ready_list t)) (currents t)
seats-make_ready l p below h k = seats-of (ready-behind l p below h) (line_kept (ready_moved l p below) is_current refl k)

-- every waiter of s becomes ready
pub seats-make_all_ready : (s : ℕ) (q : List ℕ) {t : Tables} → Laid t → queue t s ≡ q → seats (make_all_ready t q) ≡ seated (all_behind (priority_of t) q (ready_list t)) (currents t)
unfolding make_all_ready all_behind
seats-make_all_ready s [] l e = refl
seats-make_all_ready s (f ∷ fs) {t} l e =
    let waits = head-waits l s f fs e in
    let below = head-below l s f fs e in
    let m = ready_moved l f below in
    seats-make_all_ready s fs (laid-ready l f below (ap is_free waits)) (head-leaves l s f fs e)
    ∙ rw (fun_ext (turned-priority m), ready-behind l f below (ap is_ready waits), line_kept m is_current refl (ap is_current waits))

-- the current process comes to wait
pub seats-make_wait : {t : Tables} → Sound t → (s : ℕ) (x : Semaphore) → seats (make_wait (with_semaphore t s x) (current_of t) s) ≡ seated (ready_list t) []
seats-make_wait {t} S s x =
    let l = laid-entry S.laid s x in
    let m =
    moved-join (with_semaphore t s x) (current_of t) _ (Waiting s) (live-slot l (current_of t) (current-below S)) (live-once l (current_of t) (current-below S)) in
    seats-of
    (line_kept m is_ready refl (ap is_ready (current-is S.running)) ∙ line-entry t s x is_ready)
    (m.leaves is_current refl ∙ ap (without (current_of t)) (line-entry t s x is_current ∙ current-only S.running) ∙ without-only (current_of t))

-- Rescheduling

start-seats : {t : Tables} → Laid t → (r : List ℕ) → ready_list t ≡ r → currents t ≡ [] → seats (start_first t r) ≡ head_runs r
unfolding start_first
start-seats l [] e none = seats-of e none
start-seats {t} l (f ∷ fs) e none =
    let here : state_of t f ≡ Ready = is-ready (state_of t f) (line_first t is_ready f fs e) in
    let below : f < process_limit = live_below l f (ap is_free here) in
    let m : Turned t (with_state t f Current) f Current = moved-slot t f _ (live-slot l f below) in
    seats-of
    (m.leaves is_ready refl ∙ ap (without f) e ∙ without-first f fs (ap (times f) (sym e) ∙ in-line l f is_ready below ∙ rw here))
    (line-enter t f Current is_current m (live-once l f below) refl none)

module _ {t : Tables} (l : Laid t) (few : length (currents t) ≤ 1) where
  by_cases : (r c : List ℕ) → ready_list t ≡ r → currents t ≡ c → seats (switch t r c) ≡ reseat (priority_of t) r c
  unfolding switch reseat
  by_cases [] cs e k = seats-of e k
  by_cases (f ∷ fs) [] e k = start-seats l (ready_list t) refl k ∙ ap head_runs e
  by_cases (f ∷ fs) (c ∷ cs) e k =
      let here : state_of t c ≡ Current = is-current (state_of t c) (line_first t is_current c cs k) in
      let below : c < process_limit = live_below l c (ap is_free here) in
      let gone : currents (make_ready t c) ≡ [] =
      (ready_moved l c below).leaves is_current refl ∙ ap (without c) (k ∙ ap (λ (r : List ℕ). c ∷ r) (one-or-none c cs (rw k at few))) ∙ without-only c in
      split (ltb (priority_of t f) (priority_of t c)) (λ b. rw b (seats-of e k))
      (λ b. rw b
      (start-seats (laid-ready l c below (ap is_free here)) (ready_list (make_ready t c)) refl gone
      ∙ ap head_runs (ready-behind l c below (ap is_ready here) ∙ ap (behind (priority_of t) c) e)))

  pub seats-reschedule : seats (reschedule t) ≡ reseat (priority_of t) (ready_list t) (currents t)
  unfolding reschedule
  seats-reschedule = by_cases (ready_list t) (currents t) refl refl

-- where nobody is current, the first ready one runs
pub reseat-nobody : (rank : ℕ → ℕ) (r : List ℕ) → reseat rank r [] ≡ head_runs r
unfolding reseat
reseat-nobody rank [] = refl
reseat-nobody rank (f ∷ fs) = refl

-- What is done, by whether a reschedule follows

switched : {v : ℤ} {t : Tables} (r c : List ℕ) → Prepared (switching v t) → seats t ≡ seated r c → seats (finish (switching v t)).tables ≡ reseat (priority_of t) r c
switched {t = t} r c P e = seats-reschedule P.laid P.few ∙ ap (λ (z : Seats). reseat (priority_of t) z.ready z.running) e

module _ {t : Tables} (S : Sound t) where
  -- the caller has come to wait
  pub seats-blocked : (s : ℕ) → is_used t s ≡ true → (c : ℤ) → 0 ≢ current_of t → seats (finish (switching (pos 1) (make_wait (with_count t s c) (current_of t) s))).tables ≡ head_runs (ready_list t)
  seats-blocked s hu c hz = switched (ready_list t) [] (wait-prepared S s hu c hz) (seats-make_wait S s _) ∙ reseat-nobody _ (ready_list t)

  -- the queue's head has become ready
  pub seats-woken : (s : ℕ) → is_used t s ≡ true → (c : ℤ) → below0 (count_of t s) ≡ true
      → seats (finish (switching (pos 1) (make_ready (with_count t s c) (first (queue t s))))).tables ≡ reseat (priority_of t) (behind (priority_of t) (first (queue t s)) (ready_list t)) (currents t)
  unfolding first_or line
  seats-woken s hu c h =
      let f : ℕ = first (queue t s) in
      let e = first-waiter (count_of t s) (queue t s) h (S.queued.counted s) in
      let l : Laid (with_count t s c) = laid-entry S.laid s _ in
      let waits = head-waits S.laid s f (drop 1 (queue t s)) e in
      let below = head-below S.laid s f (drop 1 (queue t s)) e in
      switched _ _ (signal-prepared S s hu c f (drop 1 (queue t s)) e) (seats-make_ready l f below (ap is_ready waits) (ap is_current waits))
      ∙ ap (λ (rank : ℕ → ℕ). reseat rank (behind (priority_of t) f (ready_list t)) (currents t)) (fun_ext (turned-priority (ready_moved l f below)))

  -- a suspended process has become ready
  pub seats-resumed : (p : ℕ) → state_of t p ≡ Suspended → (v : ℤ) → seats (finish (switching v (make_ready t p))).tables ≡ reseat (priority_of t) (behind (priority_of t) p (ready_list t)) (currents t)
  seats-resumed p h v =
      let below : p < process_limit = live_below S.laid p (ap is_free h) in
      switched _ _ (resume-prepared S p h v) (seats-make_ready S.laid p below (ap is_ready h) (ap is_current h))
      ∙ ap (λ (rank : ℕ → ℕ). reseat rank (behind (priority_of t) p (ready_list t)) (currents t)) (fun_ext (turned-priority (ready_moved S.laid p below)))

  pub seats-yielded : (v : ℤ) → seats (finish (switching v t)).tables ≡ reseat (priority_of t) (ready_list t) (currents t)
  seats-yielded v = switched _ _ (yield-prepared S v) refl

-- a process has stopped
module _ (v : ℤ) (t : Tables) (p : ℕ) (y : Process) (P : Prepared (stop v t p y)) (below : p < length t.processes) (hr : is_ready y.state ≡ false) (hc : is_current y.state ≡ false) where
  -- it was the current one: the first ready one runs
  pub seats-stopped-current : state_of t p ≡ Current → currents t ≡ p ∷ [] → seats (finish (stop v t p y)).tables ≡ head_runs (ready_list t)
  seats-stopped-current h e =
      rw h
      (seats-reschedule P.laid P.few
      ∙ ap (λ (z : Seats). reseat (priority_of (with_process t p y)) z.ready z.running) (seats-set t p y below hr hc ∙ seats-of (line-absent t p is_ready (ap is_ready h)) (ap (without p) e ∙ without-only p))
      ∙ reseat-nobody (priority_of (with_process t p y)) (ready_list t))

  -- it wasn't: it leaves the ready list if it was there
  pub seats-stopped-other : is_current (state_of t p) ≡ false → seats (finish (stop v t p y)).tables ≡ seated (without p (ready_list t)) (currents t)
  seats-stopped-other h = rw h (seats-set t p y below hr hc ∙ seats-of refl (line-absent t p is_current h))

pub seats-released : {t : Tables} → Sound t → (s : ℕ) (x : Semaphore) → seats (finish (release t s x)).tables ≡ released t s
unfolding is_empty make_all_ready line
seats-released {t} S s x = go (queue t s) refl
  where
    go : (q : List ℕ) → queue t s ≡ q → seats (if not (is_empty q) then reschedule (make_all_ready (with_semaphore t s x) q) else make_all_ready (with_semaphore t s x) q) ≡ (if is_empty q then seats t else reseat (priority_of t) (all_behind (priority_of t) q (ready_list t)) (currents t))
    go [] e = refl
    go (p ∷ ps) e =
        let after : Tables = make_all_ready (with_semaphore t s x) (p ∷ ps) in
        let l : Laid after = rw e at (release-prepared S s x).laid in
        let few : length (currents after) ≤ 1 = rw e at (release-prepared S s x).few in
        seats-reschedule l few
        ∙ ap (λ (z : Seats). reseat (priority_of after) z.ready z.running) (seats-make_all_ready s (p ∷ ps) (laid-entry S.laid s x) e)
        ∙ ap (λ (rank : ℕ → ℕ). reseat rank (all_behind (priority_of t) (p ∷ ps) (ready_list t)) (currents t)) (fun_ext (λ i. all-ready-keeps (priority-apart i) (with_semaphore t s x) (p ∷ ps)))
