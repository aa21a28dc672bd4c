-- What the row makes true of the lists and queues of sound tables. Assumes nothing.
use Prim.Native.Nat.{ℕ, ◌≤◌, ◌<◌}
use native.Mathlib.Omega.{arith}
use mathlib.Core.Bool.{Bool, true, false, not}
use mathlib.Core.List.{List, [], ◌∷◌}
use mathlib.Core.Path.{◌≡◌, refl, sym, ap, ◌∙◌}
use lib.ListN.{length}
use borrow.Author.Tests.{eq-eqb}
use Rattle.lists.specs.Lists.{filter, times, first_or, first}
use Rattle.lists.specs.Numbers.{count_up}
use Rattle.lists.proofs.Bools.{split}
use Rattle.lists.proofs.ListLaws.{times-filter, length-split, times-length, one-or-none, times-only, times-empty}
use Rattle.lists.proofs.Rows.{row-count_up}
use Rattle.tables.specs.declared.State.TheVariants.{Current, Waiting}
use Rattle.tables.specs.declared.Tables.{Tables}
use Rattle.tables.specs.Limits.{process_limit, semaphore_limit}
use Rattle.tables.specs.States.{is_free, is_current, is_ready, waits_on}
use Rattle.tables.specs.Readers.{state_of, is_used, is_live, line, live, queue, currents, current_of}
use Rattle.tables.specs.Sound.{Running, Sound, Sentences}
use Rattle.tables.proofs.States.{is-current, is-ready, waits-on}
use Rattle.tables.proofs.LineLaws.{line_first, line-passes, live_below, live-once, used-below, in-line-live}

waiter-once : {t : Tables} → Sound t → (p s : ℕ) → state_of t p ≡ Waiting s → times p (queue t s) ≡ 1
waiter-once S p s h = in-line-live S.laid p (waits_on s) refl ∙ rw (h, eq-eqb s s refl)

-- whoever waits, waits on a used semaphore: on another the count is 0, and with that goes no queue
pub waiter-used : {t : Tables} → Sound t → (p s : ℕ) → state_of t p ≡ Waiting s → is_used t s ≡ true
waiter-used {t} S p s h =
    split (is_used t s) (λ e. e) (λ e. absurd (times-empty p (queue t s) (waiter-once S p s h) (rw (S.queued.unused s e) at (S.queued.counted s))))

pub waiter-below : {t : Tables} → Sound t → (p s : ℕ) → state_of t p ≡ Waiting s → s < semaphore_limit
waiter-below S p s h = used-below S.laid s (waiter-used S p s h)

pub sentences : {t : Tables} → Sound t → Sentences t
sentences {t} S =
    record {
      ready_once = λ p. in-line-live S.laid p is_ready refl;
      queued_once = waiter-once S;
      queued_only = λ p s h. waits-on (state_of t p) s (line-passes t (waits_on s) p h);
      waits_used = waiter-used S;
      no_queue = λ s e. rw (S.queued.unused s e) at (S.queued.counted s);
    }

-- who runs

pub current-only : {t : Tables} → Running t → currents t ≡ current_of t ∷ []
unfolding first_or
current-only {t} r = go (currents t) r.one
  where
    go : (c : List ℕ) → length c ≡ 1 → c ≡ first c ∷ []
    go [] h = absurd (omega arith)
    go (x ∷ xs) h = ap (λ (l : List ℕ). x ∷ l) (one-or-none x xs (omega arith))

pub current-is : {t : Tables} → Running t → state_of t (current_of t) ≡ Current
current-is {t} r = is-current (state_of t (current_of t)) (line_first t is_current (current_of t) [] (current-only r))

pub current-below : {t : Tables} → Sound t → current_of t < process_limit
current-below {t} S = live_below S.laid (current_of t) (ap is_free (current-is S.running))

-- whoever is current is the one
pub current-unique : {t : Tables} → Sound t → (p : ℕ) → is_current (state_of t p) ≡ true → current_of t ≡ p
current-unique {t} S p h = times-only p (current_of t) (ap (times p) (sym (current-only S.running)) ∙ in-line-live S.laid p is_current refl ∙ rw h)

-- fewer wait than there are processes, since the current one doesn't
pub few-wait : {t : Tables} → Sound t → (s : ℕ) → length (queue t s) < process_limit
unfolding line
few-wait {t} S s =
    let f : ℕ → Bool = λ x. waits_on s (state_of t x) in
    let one : times (current_of t) (filter (λ x. not (f x)) t.order) ≡ 1 = times-filter (current_of t) (λ x. not (f x)) t.order ∙ rw (current-is S.running) (live-once S.laid (current_of t) (current-below S)) in
    let n : length t.order ≡ process_limit = S.laid.places in
    omega (arith, length-split f t.order, times-length (current_of t) (filter (λ x. not (f x)) t.order))

-- somebody is live, since process 0 is
pub live-some : {t : Tables} → Sound t → 1 ≤ length (live t)
unfolding live
live-some {t} S =
    let zero : is_free (state_of t 0) ≡ false = split (is_current (state_of t 0)) (λ e. ap is_free (is-current (state_of t 0) e)) (λ e. ap is_free (is-ready (state_of t 0) (rw e at S.running.zero))) in
    let one : times 0 (filter (is_live t) (count_up 0 process_limit)) ≡ 1 = times-filter 0 (is_live t) (count_up 0 process_limit) ∙ rw zero ((row-count_up process_limit).once 0 (omega arith)) in
    omega (arith, times-length 0 (filter (is_live t) (count_up 0 process_limit)))
