-- The test of soundness holds exactly when the tables are sound. Assumes nothing.
use Rattle.std.specs.Prelude.{if◌then◌else◌}
use Prim.Native.Nat.{ℕ, suc, ◌≤◌, ◌<◌}
use native.Mathlib.Omega.{arith}
use mathlib.Core.Bool.{Bool, true, false, ◌&&◌, ◌||◌, false≢true}
use mathlib.Core.List.{List, [], ◌∷◌}
use mathlib.Core.Logic.{◌≢◌}
use mathlib.Core.Option.{Option, none, some}
use mathlib.Core.Path.{◌≡◌, refl, sym, ap, subst, ◌∙◌}
use lib.Dec.{eqb, ltb}
use lib.IntN.{ℤ, pos, negsuc, nat_abs}
use lib.ListN.{length, get_or}
use borrow.Author.Tests.{eq-eqb, ne_eqb, lt-ltb, ltb-true, eqb-true}
use Rattle.lists.specs.Lists.{times, AtMost, Falling}
use Rattle.lists.specs.Numbers.{all}
use Rattle.lists.proofs.Bools.{split, either, below?, both, and_in}
use Rattle.lists.proofs.ListLaws.{length-empty}
use Rattle.lists.proofs.FallingLaws.{at_most-member, at_most-all, falls-both, both-falls}
use Rattle.lists.proofs.NumberLaws.{all-at, all_true}
use Rattle.lists.proofs.Rows.{within, times-at, Row, row-times}
use Rattle.tables.specs.declared.Process.{Process}
use Rattle.tables.specs.declared.Semaphore.{Semaphore}
use Rattle.tables.specs.declared.Tables.{Tables}
use Rattle.tables.specs.Limits.{process_limit, semaphore_limit}
use Rattle.tables.specs.States.{is_ready, awaits, is_the, waits_on}
use Rattle.tables.specs.Readers.{process, state_of, priority_of, semaphore, is_used, count_of, ready_list, queue, currents, current_of}
use Rattle.tables.specs.Sound.{SlotSound, Laid, Counted, Queued, Sound}
use Rattle.tables.specs.Test.{shaped, once_each, is_semaphore, names_semaphore, null_fits, slot_fits, count_fits, semaphore_fits, semaphores_fit, ready_falls, clauses, all_of, sound_now}
use Rattle.tables.proofs.States.{is-ready, awaits-some}
use Rattle.tables.proofs.LineLaws.{line-passes, line-empty, slot-past, entry_past, in-line-live}
use Rattle.tables.proofs.Sentences.{waiter-below}
use Rattle.tables.proofs.SlotLaws.{null-sound, sound-null, fits-sound, sound-fits, free-sound}

-- the clauses of the test, by name
pub record Passed (t : Tables) : Type 0 where
  pub shape : shaped t ≡ true
  pub names : all process_limit (λ p. names_semaphore (state_of t p)) ≡ true
  pub semaphore_cursor : ltb t.next_semaphore semaphore_limit ≡ true
  pub process_cursor : ltb t.next_process process_limit ≡ true
  pub null : null_fits (process t 0) ≡ true
  pub slots : all process_limit (λ p. eqb p 0 || slot_fits (process t p)) ≡ true
  pub row : once_each t.order ≡ true
  pub one : eqb (length (currents t)) 1 ≡ true
  pub ready : ready_falls t ≡ true
  pub counts : semaphores_fit t ≡ true

abbrev AllTrue : List Bool → Type 0
AllTrue [] = Unit
AllTrue (b ∷ bs) = (b ≡ true) × AllTrue bs

each_of : (bs : List Bool) → all_of bs ≡ true → AllTrue bs
each_of [] h = tt
each_of (b ∷ bs) h = ((both b (all_of bs) h).0, each_of bs (both b (all_of bs) h).1)

all-of : (bs : List Bool) → AllTrue bs → all_of bs ≡ true
all-of [] h = refl
all-of (b ∷ bs) (h, hs) = and_in h (all-of bs hs)

pub passed : (t : Tables) → sound_now t ≡ true → Passed t
unfolding sound_now
passed t h = go (each_of (clauses t) h)
  where
    go : AllTrue (clauses t) → Passed t
    go (a, (b, (c, (d, (e, (f, (g, (i, (j, (k, u)))))))))) = record { shape = a; names = b; semaphore_cursor = c; process_cursor = d; null = e; slots = f; row = g; one = i; ready = j; counts = k }

pub passing : (t : Tables) → Passed t → sound_now t ≡ true
unfolding sound_now
passing t P =
    all-of (clauses t)
    (P.shape, (P.names, (P.semaphore_cursor, (P.process_cursor, (P.null, (P.slots, (P.row, (P.one, (P.ready, (P.counts, tt))))))))))

-- The row

pub row_of : (xs : List ℕ) → length xs ≡ process_limit → once_each xs ≡ true → Row process_limit xs
unfolding once_each
row_of xs l h =
    let w = both (all process_limit (λ i. ltb (get_or xs i 0) process_limit)) (all process_limit (λ p. eqb (times p xs) 1)) h in
    record {
      inside = within process_limit xs (λ i k. ltb-true (get_or xs i 0) process_limit (all-at (λ i. ltb (get_or xs i 0) process_limit) process_limit i w.0 (omega arith)));
      once = λ p k. eqb-true (times p xs) 1 (all-at (λ p. eqb (times p xs) 1) process_limit p w.1 k);
    }

pub of_row : (xs : List ℕ) → length xs ≡ process_limit → ((p : ℕ) → times p xs ≡ (if ltb p process_limit then 1 else 0)) → once_each xs ≡ true
unfolding once_each
of_row xs l h =
    and_in
    (all_true process_limit (λ i. ltb (get_or xs i 0) process_limit)
    (λ i k. split (ltb (get_or xs i 0) process_limit) (λ e. e)
    (λ e. let z : times (get_or xs i 0) xs ≡ 0 = h (get_or xs i 0) ∙ rw e in absurd (omega (arith, times-at xs i (omega arith))))))
    (all_true process_limit (λ p. eqb (times p xs) 1) (λ p k. eq-eqb (times p xs) 1 (h p ∙ rw (lt-ltb p process_limit k))))

-- Counts

fits-counted : (u : Bool) (c : ℤ) (q : List ℕ) → count_fits u c (length q) ≡ true → Counted c q
fits-counted true (pos n) q h = length-empty q (eqb-true (length q) 0 h)
fits-counted true (negsuc n) q h = eqb-true (length q) (suc n) h
fits-counted false (pos n) q h = length-empty q (eqb-true (length q) 0 (both (eqb n 0) (eqb (length q) 0) h).1)
fits-counted false (negsuc n) q h = absurd (false≢true h)

fits-unused : (c : ℤ) (n : ℕ) → count_fits false c n ≡ true → c ≡ pos 0
fits-unused (pos c) n h = ap pos (eqb-true c 0 (both (eqb c 0) (eqb n 0) h).0)
fits-unused (negsuc c) n h = absurd (false≢true h)

counted-fits : (u : Bool) (c : ℤ) (q : List ℕ) → Counted c q → (u ≡ false → c ≡ pos 0) → count_fits u c (length q) ≡ true
counted-fits true (pos n) q h k = eq-eqb (length q) 0 (ap length h)
counted-fits true (negsuc n) q h k = eq-eqb (length q) (suc n) h
counted-fits false c q h k = go c (k refl) h
  where
    go : (c : ℤ) → c ≡ pos 0 → Counted c q → count_fits false c (length q) ≡ true
    go (pos n) e h = and_in (ap (λ (z : ℤ). eqb (nat_abs z) 0) e) (eq-eqb (length q) 0 (ap length h))
    go (negsuc n) e h = let z : ◌≡◌ {A = ℕ} 0 1 = cc in absurd (omega arith)

-- who waits on a number past the semaphores
past-named : (w : Option ℕ) (s : ℕ) → is_semaphore w ≡ true → semaphore_limit ≤ s → is_the s w ≡ false
past-named none s h k = refl
past-named (some r) s h k = ne_eqb r s (λ e. let g : r < semaphore_limit = ltb-true r semaphore_limit h in omega arith)

-- The test holds: the tables are sound

module _ (t : Tables) (P : Passed t) where
  lengths : (length t.processes ≡ process_limit) × ((length t.semaphores ≡ semaphore_limit) × (length t.order ≡ process_limit))
  lengths =
      let a = both (eqb (length t.processes) process_limit) (eqb (length t.semaphores) semaphore_limit && eqb (length t.order) process_limit) P.shape in
      let b = both (eqb (length t.semaphores) semaphore_limit) (eqb (length t.order) process_limit) a.1 in
      (eqb-true (length t.processes) process_limit a.0, (eqb-true (length t.semaphores) semaphore_limit b.0, eqb-true (length t.order) process_limit b.1))

  falls-well : AtMost (priority_of t) (priority_of t (current_of t)) (ready_list t) × Falling (priority_of t) (ready_list t)
  unfolding ready_falls
  falls-well = falls-both (priority_of t) (priority_of t (current_of t)) (ready_list t) P.ready

  slot-fits : (p : ℕ) → p < process_limit → p ≢ 0 → slot_fits (process t p) ≡ true
  slot-fits p k h = rw (ne_eqb p 0 h) at (all-at (λ p. eqb p 0 || slot_fits (process t p)) process_limit p P.slots k)

  slot-sound : (p : ℕ) → SlotSound p (process t p)
  slot-sound p =
      let n = lengths.0 in
      either p 0 (λ d. rw d (null-sound (process t 0) P.null).1)
      (λ d. below? p process_limit
      (λ k. fits-sound p (process t p) d (slot-fits p k d))
      (λ k. rw (slot-past t p (omega arith)) (free-sound p)))

  laid : Laid t
  laid =
      record {
        slots = lengths.0;
        entries = lengths.1.0;
        places = lengths.1.1;
        order = row-times (row_of t.order lengths.1.1 P.row);
        falling = falls-well.1;
        slot = slot-sound;
        cursors = (ltb-true t.next_semaphore semaphore_limit P.semaphore_cursor, ltb-true t.next_process process_limit P.process_cursor);
      }

  nobody-past : (s : ℕ) → semaphore_limit ≤ s → queue t s ≡ []
  nobody-past s k =
      let n = lengths.0 in
      line-empty t (waits_on s)
      (λ p. below? p process_limit
      (λ h. past-named (awaits (state_of t p)) s (all-at (λ p. names_semaphore (state_of t p)) process_limit p P.names h) k)
      (λ h. ap (λ (r : Process). waits_on s r.state) (slot-past t p (omega arith))))

  entry-fits : (s : ℕ) → s < semaphore_limit → count_fits (is_used t s) (count_of t s) (length (queue t s)) ≡ true
  unfolding semaphores_fit
  entry-fits s h = all-at (λ s. semaphore_fits (semaphore t s) (length (queue t s))) semaphore_limit s P.counts h

  queued : Queued t
  queued =
      let n = lengths.1.0 in
      record {
        counted = λ s. below? s semaphore_limit
            (λ h. fits-counted (is_used t s) (count_of t s) (queue t s) (entry-fits s h))
            (λ h. subst (λ (x : Semaphore). Counted x.count (queue t s)) (sym (entry_past t s (omega arith))) (nobody-past s h));
        unused = λ s u. below? s semaphore_limit
            (λ h. fits-unused (count_of t s) (length (queue t s)) (rw u at (entry-fits s h)))
            (λ h. ap (λ (x : Semaphore). x.count) (entry_past t s (omega arith)));
      }

  passed-sound : Sound t
  passed-sound =
      record {
        laid = laid;
        queued = queued;
        running = record {
          one = eqb-true (length (currents t)) 1 P.one;
          zero = (null-sound (process t 0) P.null).0;
          top = λ p e. at_most-member (priority_of t) (priority_of t (current_of t)) (ready_list t) p falls-well.0
              (let n : times p (ready_list t) ≡ 1 = in-line-live laid p is_ready refl ∙ rw e in omega arith);
        };
      }

pub checked-sound : {t : Tables} → sound_now t ≡ true → Sound t
checked-sound {t} h = passed-sound t (passed t h)

-- The tables are sound: the test holds

module _ {t : Tables} (S : Sound t) where
  names-well : (p : ℕ) → names_semaphore (state_of t p) ≡ true
  names-well p = go (awaits (state_of t p)) refl
    where
      go : (w : Option ℕ) → awaits (state_of t p) ≡ w → is_semaphore w ≡ true
      go none e = refl
      go (some s) e = lt-ltb s semaphore_limit (waiter-below S p s (awaits-some (state_of t p) s e))

  sound-passed : Passed t
  unfolding ready_falls semaphores_fit
  sound-passed =
      record {
        shape = and_in (eq-eqb (length t.processes) process_limit S.laid.slots) (and_in (eq-eqb (length t.semaphores) semaphore_limit S.laid.entries) (eq-eqb (length t.order) process_limit S.laid.places));
        names = all_true process_limit (λ p. names_semaphore (state_of t p)) (λ p k. names-well p);
        semaphore_cursor = lt-ltb t.next_semaphore semaphore_limit S.laid.cursors.0;
        process_cursor = lt-ltb t.next_process process_limit S.laid.cursors.1;
        null = sound-null (process t 0) S.running.zero (S.laid.slot 0);
        slots = all_true process_limit (λ p. eqb p 0 || slot_fits (process t p)) (λ p k. either p 0 (λ e. rw e) (λ e. rw (ne_eqb p 0 e) (sound-fits p (process t p) e (S.laid.slot p))));
        row = of_row t.order S.laid.places S.laid.order;
        one = eq-eqb (length (currents t)) 1 S.running.one;
        ready = both-falls (priority_of t) (priority_of t (current_of t)) (ready_list t)
            (at_most-all (priority_of t) (priority_of t (current_of t)) (ready_list t) (λ p h. S.running.top p (is-ready (state_of t p) (line-passes t is_ready p h))))
            S.laid.falling;
        counts = all_true semaphore_limit (λ s. semaphore_fits (semaphore t s) (length (queue t s))) (λ s k. counted-fits (is_used t s) (count_of t s) (queue t s) (S.queued.counted s) (S.queued.unused s));
      }

  pub sound-checked : sound_now t ≡ true
  sound-checked = passing t sound-passed
