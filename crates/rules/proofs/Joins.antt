-- A process joins a line: what every line becomes. Assumes nothing.
use Prim.Native.Nat.{ℕ, ◌<◌}
use mathlib.Core.Bool.{Bool, true, false, not, ◌&&◌, and-true, and-false}
use mathlib.Core.List.{[], ◌∷◌, ◌++◌}
use mathlib.Core.Logic.{◌≢◌}
use mathlib.Core.Path.{◌≡◌, refl, sym, ap, ◌∙◌}
use lib.Dec.{eqb}
use lib.ListN.{length}
use lib.Seq.{get_or-set_same, get_or-set_other}
use borrow.Author.Tests.{eq-eqb, ne_eqb}
use Rattle.lists.specs.Lists.{filter, without, put_before, times}
use Rattle.lists.proofs.ListLaws.{filter-without, filter-put_before-no, filter-put_before-yes, put_before-last, place_is, put_before-ext}
use Rattle.lists.proofs.Bools.{either}
use Rattle.tables.specs.declared.State.{State}
use Rattle.tables.specs.declared.State.TheVariants.{Ready, Waiting}
use Rattle.tables.specs.declared.Process.{Process}
use Rattle.tables.specs.declared.Tables.{Tables}
use Rattle.tables.specs.States.{is_ready, waits_on}
use Rattle.tables.specs.Readers.{free_slot, process, state_of, line, ready_list, queue}
use Rattle.tables.specs.Setters.{in_state}
use Rattle.rules.specs.Schedule.{joining, ready_before, make_wait}

-- p joins a line

module _ (t : Tables) (p : ℕ) (before : ℕ → Bool) (st : State) (test : State → Bool) (hp : p < length t.processes) (once : times p t.order ≡ 1) where
  pub joined_same : process (joining t p before st) p ≡ in_state st (process t p)
  unfolding joining
  joined_same = get_or-set_same t.processes p (in_state st (process t p)) free_slot hp

  pub joined-other : (x : ℕ) → x ≢ p → process (joining t p before st) x ≡ process t x
  unfolding joining
  joined-other x h = get_or-set_other t.processes p x (in_state st (process t p)) free_slot h

  test-join : (x : ℕ) → (not (eqb x p) && test (state_of (joining t p before st) x)) ≡ (test (state_of t x) && not (eqb x p))
  test-join x =
      either x p
      (λ e. rw (e, eq-eqb p p refl) (sym (and-false (test (state_of t p)))))
      (λ d. rw (ne_eqb x p d) (ap (λ (r : Process). test r.state) (joined-other x d) ∙ sym (and-true (test (state_of t x)))))

  rest : filter (λ x. test (state_of (joining t p before st) x)) (without p t.order) ≡ without p (line t test)
  unfolding line
  rest = filter-without (λ x. test (state_of (joining t p before st) x)) (λ x. test (state_of t x)) p t.order test-join

  -- a line that it doesn't join
  pub line-join-other : test st ≡ false → line (joining t p before st) test ≡ without p (line t test)
  unfolding line joining
  line-join-other h =
      let now : ℕ → Bool = λ x. test (state_of (joining t p before st) x) in
      ap (filter now) (place_is before p t.order once)
      ∙ filter-put_before-no now before p (without p t.order) (ap (λ (r : Process). test r.state) joined_same ∙ h)
      ∙ rest

  -- the line that it joins
  pub line-join : (low : ℕ → Bool) → test st ≡ true → ((x : ℕ) → before x ≡ (test (state_of t x) && low x)) → line (joining t p before st) test ≡ put_before low p (without p (line t test))
  unfolding line joining
  line-join low h k =
      let now : ℕ → Bool = λ x. test (state_of (joining t p before st) x) in
      ap (filter now) (place_is before p t.order once)
      ∙ ap (filter now) (put_before-ext before (λ x. now x && low x) p t.order (λ x n. k x ∙ ap (λ (r : Process). test r.state && low x) (sym (joined-other x n))))
      ∙ filter-put_before-yes now (λ x. now x && low x) low p (without p t.order) (ap (λ (r : Process). test r.state) joined_same ∙ h) (λ x. refl)
      ∙ ap (put_before low p) rest

-- The two joins that the rules make

pub queue-make_wait : (t : Tables) (p s : ℕ) → p < length t.processes → times p t.order ≡ 1 → queue (make_wait t p s) s ≡ without p (queue t s) ++ p ∷ []
queue-make_wait t p s hp once =
    line-join t p (λ x. false) (Waiting s) (waits_on s) hp once (λ x. false) (eq-eqb s s refl) (λ x. sym (and-false (waits_on s (state_of t x))))
    ∙ put_before-last p (without p (queue t s))

pub ready-joined : (low : ℕ → Bool) (t : Tables) (p : ℕ) → p < length t.processes → times p t.order ≡ 1 → ready_list (ready_before low t p) ≡ put_before low p (without p (ready_list t))
ready-joined low t p hp once = line-join t p (λ x. is_ready (state_of t x) && low x) Ready is_ready hp once low refl (λ x. refl)
