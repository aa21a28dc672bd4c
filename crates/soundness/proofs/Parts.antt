-- The check's parts, joined to the test of soundness. Assumes nothing.
use Rattle.std.specs.Prelude.{None, Some, if◌then◌else◌}
use Rattle.std.proofs.lemmas.Option.{none-some, same_Some}
use Prim.Native.Nat.{◌*◌, ◌+◌, ◌-◌, ◌<◌, ◌≤◌, suc, zero, ℕ}
use native.Mathlib.Nat.{zero-add}
use native.Mathlib.Omega.{arith}
use mathlib.Core.Bool.{Bool, ◌&&◌, ◌||◌, and-true, false, true}
use mathlib.Core.List.{List}
use mathlib.Core.Path.{◌∙◌, ◌≡◌, ap, refl, subst, sym}
use lib.Dec.{eqb, leb, ltb}
use lib.ListN.{get_or, length}
use borrow.Author.Tests.{eq-eqb, eqb-true, leb-true, ne_eqb}
use Rattle.layout.specs.Bytes.{from_bytes, well_formed}
use Rattle.layout.specs.Offsets.{priorities_at}
use Rattle.lists.specs.Lists.{falls}
use Rattle.lists.specs.Numbers.{all, total}
use Rattle.tables.specs.Limits.{priority_limit, process_limit, semaphore_limit}
use Rattle.tables.specs.Readers.{current_of, currents, line, priority_of, process, queue, ready_list, semaphore, state_of}
use Rattle.tables.specs.States.{is_current, is_free, is_ready, waits_on}
use Rattle.tables.specs.Test.{semaphores_fit, null_fits, once_each, ready_falls, semaphore_fits, shaped, slot_fits, sound_now}
use Rattle.tables.specs.declared.State.{State}
use Rattle.tables.specs.declared.Tables.{Tables}
use Rattle.layout.proofs.Image.{order-long, priority-said, processes-long, semaphores-long}
use Rattle.lists.proofs.Bools.{both, either}
use Rattle.lists.proofs.NumberLaws.{all-at, all-ext}
use Rattle.lists.proofs.Rows.{total_ext, total-join}
use Rattle.tables.proofs.Lines.{current-inside, current-sum, line-many}
use Rattle.queues.specs.Tallies.{Tallied, counted_fits, half_limit}
use Rattle.soundness.specs.Laid.{laid_clauses}
use Rattle.soundness.specs.Running.{runner_of, sole_of, weight_of}
use Rattle.soundness.specs.Sums.{many_of}
use Rattle.soundness.proofs.StateBytes.{names-all}

and-group : (a b c d e f : Bool) → (a && (b && (c && (d && (e && f))))) ≡ ((a && (b && (c && (d && e)))) && f)
and-group true true true true e f = refl
and-group true true true false e f = refl
and-group true true false d e f = refl
and-group true false c d e f = refl
and-group false b c d e f = refl

slot_small : (free : Bool) (n : ℕ) → (if free then eqb n 0 else (ltb 0 n && leb n priority_limit)) ≡ true → n ≤ priority_limit
slot_small true n h = let e = eqb-true n 0 h in omega arith
slot_small false n h = leb-true n priority_limit (both (ltb 0 n) _ h).1

-- each that passes adds the limit and its number: the limit for each, and the numbers
weighed : (f : ℕ → Bool) (n : ℕ) → total n (λ p. if f p then process_limit + p else 0) ≡ process_limit * total n (λ p. if f p then 1 else 0) + total n (λ p. if f p then p else 0)
unfolding total
weighed f zero = omega arith
weighed f (suc n) = go (f n) _ _ _ (weighed f n)
  where
    go : (b : Bool) (w m s : ℕ) → w ≡ process_limit * m + s → w + (if b then process_limit + n else 0) ≡ process_limit * (m + (if b then 1 else 0)) + (s + (if b then n else 0))
    go true w m s e = omega arith
    go false w m s e = omega arith

-- and the numbers are below the limit
numbers-light : (f : ℕ → Bool) (n : ℕ) → n ≤ process_limit → total n (λ p. if f p then p else 0) + total n (λ p. if f p then 1 else 0) ≤ process_limit * total n (λ p. if f p then 1 else 0)
unfolding total
numbers-light f zero h = omega arith
numbers-light f (suc n) h = go (f n) _ _ (numbers-light f n (omega arith))
  where
    go : (b : Bool) (m s : ℕ) → s + m ≤ process_limit * m → (s + (if b then n else 0)) + (m + (if b then 1 else 0)) ≤ process_limit * (m + (if b then 1 else 0))
    go true m s e = omega arith
    go false m s e = omega arith

-- the tallies of both halves are that of all
halves : (t : Tables) (a b : List ℕ) → Tallied t 0 half_limit a → Tallied t half_limit half_limit b → (s : ℕ) → s < semaphore_limit → get_or a s 0 + get_or b s 0 ≡ many_of t (waits_on s)
halves t a b x y s h =
    let w : ℕ → ℕ = λ p. if waits_on s (state_of t p) then 1 else 0 in
    rw (x.said s h, y.said s h)
    (ap (λ (n : ℕ). n + total half_limit (λ p. w (half_limit + p))) (total_ext half_limit (λ p. w (0 + p)) w (λ p k. ap w (zero-add p))) ∙ total-join w half_limit half_limit)

module _ (bs : List ℕ) (wf : well_formed bs ≡ true) where
  abbrev t : Tables
  t = from_bytes bs

  shaped-said : shaped t ≡ true
  shaped-said = rw (processes-long bs, semaphores-long bs, order-long bs)

  -- of well formed bytes the test is that of how the tables are laid, and of who runs and waits
  opened : sound_now t ≡ (laid_clauses t && (eqb (length (currents t)) 1 && (ready_falls t && semaphores_fit t)))
  unfolding sound_now
  opened =
      rw (shaped-said, names-all bs wf, and-true (semaphores_fit t))
      (and-group (ltb t.next_semaphore semaphore_limit) (ltb t.next_process process_limit) (null_fits (process t 0))
      (all process_limit (λ p. eqb p 0 || slot_fits (process t p))) (once_each t.order)
      (eqb (length (currents t)) 1 && (ready_falls t && semaphores_fit t)))

  pub unlaid : laid_clauses t ≡ false → sound_now t ≡ false
  unlaid h = opened ∙ rw h

  unsound : sound_now t ≡ false → None ≡ runner_of t
  unsound h = ap (λ (b : Bool). if b then Some (current_of t) else None) (sym h)

  module _ (laid : laid_clauses t ≡ true) where
    -- the slots of laid tables, and their row
    slots : (null_fits (process t 0) ≡ true) × (all process_limit (λ p. eqb p 0 || slot_fits (process t p)) ≡ true) × (once_each t.order ≡ true)
    slots =
        let a = (both (ltb t.next_semaphore semaphore_limit) _ laid).1 in
        let b = (both (ltb t.next_process process_limit) _ a).1 in
        let c = both (null_fits (process t 0)) _ b in
        let d = both (all process_limit (λ p. eqb p 0 || slot_fits (process t p))) _ c.1 in
        (c.0, d.0, d.1)

    row : once_each t.order ≡ true
    row = slots.2

    pub priority-small : (p : ℕ) → p < process_limit → get_or bs (priorities_at + p) 0 ≤ priority_limit
    priority-small p h =
        let said = priority-said bs p h in
        either p 0
        (λ e.
        let z : priority_of t p ≡ 0 = rw e (eqb-true (priority_of t 0) 0 (both (is_current (state_of t 0) || is_ready (state_of t 0)) _ slots.0).1) in
        omega arith)
        (λ d.
        let f : slot_fits (process t p) ≡ true = rw (ne_eqb p 0 d) at (all-at (λ p. eqb p 0 || slot_fits (process t p)) process_limit p slots.1 h) in
        let l = slot_small (is_free (state_of t p)) (priority_of t p) f in
        omega arith)

    many-said : (test : State → Bool) → length (line t test) ≡ many_of t test
    many-said test = line-many t (order-long bs) row test

    -- each count goes with its queue, by the tallies of both halves
    pub queues-said : {many more : List ℕ} → Tallied t 0 half_limit many → Tallied t half_limit half_limit more → all semaphore_limit (counted_fits t many more) ≡ semaphores_fit t
    unfolding semaphores_fit
    queues-said {many} {more} x y =
        all-ext semaphore_limit (counted_fits t many more) (λ s. semaphore_fits (semaphore t s) (length (queue t s)))
        (λ s k. ap (semaphore_fits (semaphore t s)) (halves t many more x y s k ∙ sym (many-said (waits_on s))))

    -- how many are current, and the sum of their numbers, by what they weigh
    module _ (w : ℕ) (e : w ≡ weight_of t is_current) where
      abbrev numbers : ℕ
      numbers = total process_limit (λ p. if is_current (state_of t p) then p else 0)

      weight : (w ≡ process_limit * length (currents t) + numbers) × (numbers + length (currents t) ≤ process_limit * length (currents t))
      weight =
          let f : ℕ → Bool = λ p. is_current (state_of t p) in
          rw (many-said is_current) (e ∙ weighed f process_limit, numbers-light f process_limit (omega arith))

      alone : (length (currents t) ≡ 1 → ⊥) → None ≡ sole_of t
      alone d = sym (rw (ne_eqb (length (currents t)) 1 d))

      pub none-sole : w < process_limit → None ≡ sole_of t
      none-sole h = alone (λ k. let a = weight in omega arith)

      pub many-sole : process_limit + process_limit ≤ w → None ≡ sole_of t
      many-sole h = alone (λ k. let a = weight in omega arith)

      pub one-sole : process_limit ≤ w → w < process_limit + process_limit → Some (w - process_limit) ≡ sole_of t
      one-sole a b =
          let h = weight in
          let one : length (currents t) ≡ 1 = omega arith in
          let is : current_of t ≡ numbers = current-sum t (order-long bs) row one in
          ap Some (omega arith ∙ sym is) ∙ sym (rw (eq-eqb (length (currents t)) 1 one))

    pub nobody-runs : None ≡ sole_of t → None ≡ runner_of t
    nobody-runs e = go (eqb (length (currents t)) 1) refl
      where
        go : (b : Bool) → eqb (length (currents t)) 1 ≡ b → None ≡ runner_of t
        go true q = absurd (none-some (current_of t) (e ∙ rw q))
        go false q = unsound (opened ∙ ap (λ (b : Bool). laid_clauses t && (b && (ready_falls t && semaphores_fit t))) q ∙ ap (λ (b : Bool). b && false) laid)

    module _ (c : ℕ) (e : Some c ≡ sole_of t) where
      found : (eqb (length (currents t)) 1 ≡ true) × (c ≡ current_of t)
      found = go (eqb (length (currents t)) 1) e
        where
          go : (b : Bool) → Some c ≡ (if b then Some (current_of t) else None) → (b ≡ true) × (c ≡ current_of t)
          go true q = (refl, same_Some c (current_of t) q)
          go false q = absurd (none-some c (sym q))

      pub current-small : c < process_limit
      current-small = subst (λ (p : ℕ). p < process_limit) (sym found.1) (current-inside t (order-long bs) row (eqb-true (length (currents t)) 1 found.0))

      top : get_or bs (priorities_at + c) 0 + 1 - 1 ≡ priority_of t (current_of t)
      top = omega arith ∙ sym (priority-said bs c current-small) ∙ ap (priority_of t) found.1

      -- the ready list falls as its walk says, and each count goes with its queue as the tallies say
      module _ (b : Bool) (falling : b ≡ falls (priority_of t) (get_or bs (priorities_at + c) 0 + 1 - 1) (ready_list t)) where
        falls-said : ready_falls t ≡ b
        unfolding ready_falls
        falls-said = sym (falling ∙ ap (λ (p : ℕ). falls (priority_of t) p (ready_list t)) top)

        left : (q : Bool) → semaphores_fit t ≡ q → sound_now t ≡ (b && q)
        left q k = opened ∙ rw (laid, found.0, falls-said, k)

        pub not-falling : b ≡ false → None ≡ runner_of t
        not-falling h = unsound (left (semaphores_fit t) refl ∙ ap (λ (x : Bool). x && semaphores_fit t) h)

        pub not-fitting : b ≡ true → semaphores_fit t ≡ false → None ≡ runner_of t
        not-fitting h k = unsound (left false k ∙ ap (λ (x : Bool). x && false) h)

        pub runs : b ≡ true → semaphores_fit t ≡ true → Some c ≡ runner_of t
        runs h k = ap Some found.1 ∙ ap (λ (x : Bool). if x then Some (current_of t) else None) (sym (left true k ∙ ap (λ (x : Bool). x && true) h))
