-- What a call does to the semaphores as they are seen: used, count, queue. Assumes nothing.
use Prim.Native.Nat.{ℕ, ◌<◌}
use mathlib.Core.Bool.{Bool, false}
use mathlib.Core.List.{List}
use mathlib.Core.Logic.{◌≢◌}
use mathlib.Core.Path.{◌≡◌, refl, sym, ap, ◌∙◌, subst}
use lib.IntN.{ℤ, pos}
use lib.ListN.{length, set, length-set}
use lib.Seq.{get_or-set_same, get_or-set_other}
use Rattle.lists.proofs.Bools.{either}
use Rattle.tables.specs.declared.State.{State}
use Rattle.tables.specs.declared.Semaphore.{Semaphore}
use Rattle.tables.specs.declared.Tables.{Tables}
use Rattle.tables.specs.Limits.{process_limit, semaphore_limit}
use Rattle.tables.specs.Readers.{free_semaphore, semaphore, line, queue}
use Rattle.tables.specs.Setters.{with_cursors, with_semaphores, with_semaphore}
use Rattle.tables.specs.Sound.{Laid, Counted, Running, Sound}
use Rattle.rules.specs.Calls.{Deed, finish}
use Rattle.rules.proofs.Resched.{Settled, Prepared, finished}
use Rattle.rules.specs.Seen.{Seen, seen}

-- afterwards s is seen so, and every other as before; the rest is sound
pub record Effect (t t' : Tables) (s : ℕ) (u : Bool) (c : ℤ) (q : List ℕ) : Type 0 where
  pub laid : Laid t'
  pub running : Running t'
  pub here : seen t' s ≡ record { used = u; count = c; waiters = q }
  pub elsewhere : (r : ℕ) → r ≢ s → seen t' r ≡ seen t r

-- a semaphore seen so is sound
abbrev Fitting : Seen → Type 0
Fitting x = Counted x.count x.waiters × (x.used ≡ false → x.count ≡ pos 0)

fitting : {t : Tables} → Sound t → (r : ℕ) → Fitting (seen t r)
fitting S r = (S.queued.counted r, S.queued.unused r)

fitting-sound : {t : Tables} → Laid t → Running t → ((r : ℕ) → Fitting (seen t r)) → Sound t
fitting-sound l r f = record { laid = l; running = r; queued = record { counted = λ s. (f s).0; unused = λ s. (f s).1 } }

pub effect-sound : {t t' : Tables} {s : ℕ} {u : Bool} {c : ℤ} {q : List ℕ} → Sound t → Effect t t' s u c q → Counted c q → (u ≡ false → c ≡ pos 0) → Sound t'
effect-sound {s = s} S E hc hu =
    fitting-sound E.laid E.running
    (λ r. either r s (λ e. rw e (subst Fitting (sym E.here) (hc, hu))) (λ d. subst Fitting (sym (E.elsewhere r d)) (fitting S r)))

-- A semaphore's entry

pub entry-same : (t : Tables) (s : ℕ) (x : Semaphore) → s < length t.semaphores → semaphore (with_semaphore t s x) s ≡ x
entry-same t s x h = get_or-set_same t.semaphores s x free_semaphore h

pub entry_other : (t : Tables) (s : ℕ) (x : Semaphore) (r : ℕ) → r ≢ s → semaphore (with_semaphore t s x) r ≡ semaphore t r
entry_other t s x r h = get_or-set_other t.semaphores s r x free_semaphore h

pub line-entry : (t : Tables) (s : ℕ) (x : Semaphore) (test : State → Bool) → line (with_semaphore t s x) test ≡ line t test
unfolding line
line-entry t s x test = refl

-- laid tables stay so where the slots and the row are kept
pub laid_kept : {t : Tables} → Laid t → (xs : List Semaphore) (s p : ℕ) → length xs ≡ semaphore_limit → s < semaphore_limit → p < process_limit → Laid (with_cursors (with_semaphores t xs) s p)
unfolding line
laid_kept l xs s p h hs hp = record { slots = l.slots; entries = h; places = l.places; order = l.order; falling = l.falling; slot = l.slot; cursors = (hs, hp) }

pub laid-entry : {t : Tables} → Laid t → (s : ℕ) (x : Semaphore) → Laid (with_semaphore t s x)
laid-entry {t} l s x = laid_kept l (set t.semaphores s x) t.next_semaphore t.next_process (length-set t.semaphores s x ∙ l.entries) l.cursors.0 l.cursors.1

pub running-entry : {t : Tables} → Running t → (s : ℕ) (x : Semaphore) → Running (with_semaphore t s x)
unfolding line
running-entry r s x = record { one = r.one; zero = r.zero; top = r.top }

-- an entry with its queue
abbrev seen_as : Semaphore → List ℕ → Seen
seen_as x q = record { used = x.used; count = x.count; waiters = q }

-- A change of an entry, then whatever keeps the entries and leaves s the queue q and the others theirs
pub effect-entry : {t t' : Tables} {q : List ℕ} (s : ℕ) (x : Semaphore) → s < length t.semaphores → Laid t' → Running t' → t'.semaphores ≡ set t.semaphores s x
    → queue t' s ≡ q → ((r : ℕ) → r ≢ s → queue t' r ≡ queue t r) → Effect t t' s x.used x.count q
effect-entry {t} {q = q} s x hs l r e a b =
    record {
      laid = l;
      running = r;
      here = rw (a, e) (ap (λ (y : Semaphore). seen_as y q) (entry-same t s x hs));
      elsewhere = λ k h. rw (b k h, e) (ap (λ (y : Semaphore). seen_as y (queue t k)) (entry_other t s x k h));
    }

pub effect-done : {t : Tables} {q : List ℕ} (d : Deed) (s : ℕ) (x : Semaphore) → s < length t.semaphores → Prepared d → d.tables.semaphores ≡ set t.semaphores s x
    → queue d.tables s ≡ q → ((r : ℕ) → r ≢ s → queue d.tables r ≡ queue t r) → Effect t (finish d).tables s x.used x.count q
effect-done d s x hs P e a b =
    effect-entry s x hs (finished P).laid (finished P).running ((finished P).semaphores ∙ e) ((finished P).queues s ∙ a) (λ r h. (finished P).queues r ∙ b r h)

-- Calls after which every semaphore is seen as before

pub settled-seen : {t t' : Tables} → Settled t t' → (r : ℕ) → seen t' r ≡ seen t r
settled-seen g r = rw (g.queues r, g.semaphores)

pub settled-sound : {t t' : Tables} → Sound t → Settled t t' → Sound t'
settled-sound S g = fitting-sound g.laid g.running (λ r. subst Fitting (sym (settled-seen g r)) (fitting S r))
