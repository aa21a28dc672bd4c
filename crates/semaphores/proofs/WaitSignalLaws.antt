-- Wait and signal: the rule's equation in each branch, and the chain of changes. Assumes nothing.
use Prim.Native.Nat.{◌+◌, ◌<◌, ℕ}
use mathlib.Core.Bool.{false, true}
use mathlib.Core.List.{List, ◌∷◌}
use mathlib.Core.Path.{◌∙◌, ◌≡◌, ap, refl, subst, sym}
use lib.Dec.{eqb}
use lib.IntN.{◌-ℤ◌, pos, pred_ℤ, suc_ℤ, ℤ}
use lib.Signed.{le_z}
use mir.Syntax.{w32}
use borrow.Author.Tests.{eq-eqb, lt-leb, ne_eqb}
use Rattle.layout.specs.Bytes.{waiting_from}
use Rattle.layout.specs.Stands.{Stands, Tells, Turns}
use Rattle.layout.specs.declared.number.SemaphoreNumber.{SemaphoreNumber}
use Rattle.lists.specs.Lists.{first, first_or}
use Rattle.std.specs.Int.{saturate_signed}
use Rattle.std.specs.Prelude.{Err, None, Ok, Option, Result, Some}
use Rattle.order.specs.Row.{found}
use Rattle.rules.specs.declared.Call.TheVariants.{Signal, Wait}
use Rattle.rules.specs.declared.Refusal.{Refusal}
use Rattle.rules.specs.declared.Refusal.TheVariants.{CountLargest, Process0}
use Rattle.rules.specs.Calls.{below0, largest, step}
use Rattle.rules.specs.Schedule.{make_ready, make_wait}
use Rattle.scheduling.specs.Running.{Only}
use Rattle.scheduling.specs.Steps.{Leads, Runs, ended}
use Rattle.scheduling.specs.declared.step.Step.{Step}
use Rattle.scheduling.specs.declared.step.Step.TheVariants.{Done, Switches}
use Rattle.tables.specs.Limits.{process_limit, semaphore_limit}
use Rattle.tables.specs.Readers.{count_of, current_of, is_used, line, queue, state_of}
use Rattle.tables.specs.Setters.{with_count}
use Rattle.tables.specs.Sound.{Sound}
use Rattle.tables.specs.States.{is_current, waits_on}
use Rattle.tables.specs.declared.State.TheVariants.{Waiting}
use Rattle.tables.specs.declared.Tables.{Tables}
use Rattle.semaphores.specs.Target.{Chosen}
use Rattle.arguments.proofs.CountLaws.{lower-sound, somebody-waits}
use Rattle.order.proofs.Found.{line-queue, told-nobody, told-somebody}
use Rattle.scheduling.proofs.RunningLaws.{ready-still, still, wait-stopped}
use Rattle.scheduling.proofs.StepLaws.{refuses}
use Rattle.tables.proofs.LineLaws.{line_first, live-once, live-slot}
use Rattle.tables.proofs.Sentences.{current-below}
use Rattle.tables.proofs.States.{waits-on}

module _ (t : Tables) (z : ℤ) (s : ℕ) (is : z ≡ pos s) (h : s < semaphore_limit) (u : is_used t s ≡ true) where
  module _ (b : eqb (current_of t) 0 ≡ false) where
    wait-blocks : below0 (pred_ℤ (count_of t s)) ≡ true → step t (Wait z) ≡ ended (make_wait (with_count t s (pred_ℤ (count_of t s))) (current_of t) s) (Ok (Switches (pos 1)))
    unfolding step
    wait-blocks n = rw (is, lt-leb semaphore_limit s h, u, b, n) refl

    wait-goes : below0 (pred_ℤ (count_of t s)) ≡ false → step t (Wait z) ≡ ended (with_count t s (pred_ℤ (count_of t s))) (Ok (Done (pos 1)))
    unfolding step
    wait-goes n = rw (is, lt-leb semaphore_limit s h, u, b, n) refl

  module _ (b : le_z largest (count_of t s) ≡ false) where
    signal-frees : below0 (count_of t s) ≡ true → step t (Signal z) ≡ ended (make_ready (with_count t s (suc_ℤ (count_of t s))) (first (queue t s))) (Ok (Switches (pos 1)))
    unfolding step
    signal-frees n = rw (is, lt-leb semaphore_limit s h, u, b, n) refl

    signal-goes : below0 (count_of t s) ≡ false → step t (Signal z) ≡ ended (with_count t s (suc_ℤ (count_of t s))) (Ok (Done (pos 1)))
    unfolding step
    signal-goes n = rw (is, lt-leb semaphore_limit s h, u, b, n) refl

-- a wait by process 0, whatever the count
pub wait-10 : (z : ℤ) (s : SemaphoreNumber) (a : List ℕ) → Chosen z a (Ok s) → (c : ℕ) → Runs c a → c ≡ 0 → Leads (λ t. step t (Wait z)) a a (Err Process0)
unfolding step Tells
wait-10 z s a w c runs e =
    refuses (λ t. step t (Wait z)) Process0 a (λ t st S. rw (w.0, lt-leb semaphore_limit s.number s.below, sym (w.1 t st), eq-eqb (current_of t) 0 (sym (runs t st S) ∙ e)) refl)

module _ (z : ℤ) (s : SemaphoreNumber) (a : List ℕ) (w : Chosen z a (Ok s)) (n : ℤ) (count : Tells (λ t. count_of t s.number) a n) where
  used : (t : Tables) → Stands t a → is_used t s.number ≡ true
  unfolding Tells
  used t st = sym (w.1 t st)

  module _ (c : ℕ) (runs : Runs c a) (other : c ≡ 0 → ⊥) where
    another-runs : (t : Tables) → Stands t a → Sound t → eqb (current_of t) 0 ≡ false
    another-runs t st S = ne_eqb (current_of t) 0 (λ e. other (runs t st S ∙ e))

    module _ (m : ℤ) (less : m ≡ saturate_signed w32 (n -ℤ pos 1)) (b : List ℕ) (put : Turns (λ t. with_count t s.number m) a b) where
      lowers : (t : Tables) → Stands t a → Sound t → m ≡ pred_ℤ (count_of t s.number)
      unfolding Tells
      lowers t st S = less ∙ ap (λ (k : ℤ). saturate_signed w32 (k -ℤ pos 1)) (count t st) ∙ lower-sound S s.number (st.held.fits s.number)

      pub wait-block : (d : List ℕ) → below0 m ≡ true → (c < process_limit → Turns (λ t. make_wait t c s.number) b d) → Leads (λ t. step t (Wait z)) a d (Ok (Switches (pos 1)))
      unfolding Leads Turns
      wait-block d neg join t st S =
          let q = lowers t st S in
          let p = runs t st S in
          let v : Tables = with_count t s.number (pred_ℤ (count_of t s.number)) in (
            make_wait v (current_of t) s.number,
            wait-blocks t z s.number w.0 s.below (used t st) (another-runs t st S) (ap below0 (sym q) ∙ neg),
            subst (λ (k : ℤ). Stands (make_wait (with_count t s.number k) (current_of t) s.number) d) q
                (subst (λ (k : ℕ). Stands (make_wait (with_count t s.number m) k s.number) d) p (join (subst (λ (k : ℕ). k < process_limit) (sym p) (current-below S)) (with_count t s.number m) (put t st))),
            wait-stopped S s.number (record { used = is_used t s.number; count = pred_ℤ (count_of t s.number) }),
          )

      pub wait-go : below0 m ≡ false → Leads (λ t. step t (Wait z)) a b (Ok (Done (pos 1)))
      unfolding Leads Turns line
      wait-go high t st S =
          let q = lowers t st S in
          let u : Tables = with_count t s.number (pred_ℤ (count_of t s.number)) in (
            u,
            wait-goes t z s.number w.0 s.below (used t st) (another-runs t st S) (ap below0 (sym q) ∙ high),
            subst (λ (k : ℤ). Stands (with_count t s.number k) b) q (put t st),
            still S u refl,
          )

  pub signal-5 : le_z largest n ≡ true → Leads (λ t. step t (Signal z)) a a (Err CountLargest)
  unfolding step Tells
  signal-5 e = refuses (λ t. step t (Signal z)) CountLargest a (λ t st S. rw (w.0, lt-leb semaphore_limit s.number s.below, used t st, ap (le_z largest) (sym (count t st)) ∙ e) refl)

  module _ (free : le_z largest n ≡ false) (b : List ℕ) (put : Turns (λ t. with_count t s.number (suc_ℤ n)) a b) where
    raises : (t : Tables) → Stands t a → suc_ℤ n ≡ suc_ℤ (count_of t s.number)
    unfolding Tells
    raises t st = ap suc_ℤ (count t st)

    roomy : (t : Tables) → Stands t a → le_z largest (count_of t s.number) ≡ false
    unfolding Tells
    roomy t st = ap (le_z largest) (sym (count t st)) ∙ free

    -- a count below 0 finds somebody
    pub signal-nobody : (r : Option ℕ) (d : List ℕ) (x : Result Step Refusal) → below0 n ≡ true → Tells (found (waiting_from + s.number)) b r → r ≡ None → Leads (λ t. step t (Signal z)) a d x
    unfolding Leads Tells Turns line
    signal-nobody r d x neg head is t st S =
        let v : Tables = with_count t s.number (suc_ℤ n) in
        absurd (somebody-waits S s.number (ap below0 (sym (count t st)) ∙ neg) (sym (line-queue v s.number s.below) ∙ told-nobody (waiting_from + s.number) b r head v (put t st) is))

    pub signal-free : (r : Option ℕ) (p : ℕ) (d : List ℕ) → below0 n ≡ true → Tells (found (waiting_from + s.number)) b r → r ≡ Some p → (p < process_limit → Turns (λ t. make_ready t p) b d) → Leads (λ t. step t (Signal z)) a d (Ok (Switches (pos 1)))
    unfolding Leads Tells Turns first_or line
    signal-free r p d neg head is join t st S =
        let owed : below0 (count_of t s.number) ≡ true = ap below0 (sym (count t st)) ∙ neg in
        let v : Tables = with_count t s.number (suc_ℤ n) in
        let x = told-somebody (waiting_from + s.number) b r head v (put t st) p is in
        let q : queue t s.number ≡ p ∷ x.1 = sym (line-queue v s.number s.below) ∙ x.2 in
        let f : p ≡ first (queue t s.number) = ap first (sym q) in
        let waits : state_of t p ≡ Waiting s.number = waits-on (state_of t p) s.number (line_first t (waits_on s.number) p x.1 q) in (
          make_ready (with_count t s.number (suc_ℤ (count_of t s.number))) (first (queue t s.number)),
          signal-frees t z s.number w.0 s.below (used t st) (roomy t st) owed,
          subst (λ (k : ℤ). Stands (make_ready (with_count t s.number k) (first (queue t s.number))) d) (raises t st)
              (subst (λ (k : ℕ). Stands (make_ready v k) d) f (join x.0 v (put t st))),
          subst (λ (k : ℕ). Only (current_of t) (make_ready (with_count t s.number (suc_ℤ (count_of t s.number))) k)) f
              (ready-still S (with_count t s.number (suc_ℤ (count_of t s.number))) refl p (live-slot S.laid p x.0) (live-once S.laid p x.0) (ap is_current waits)),
        )

    pub signal-go : below0 n ≡ false → Leads (λ t. step t (Signal z)) a b (Ok (Done (pos 1)))
    unfolding Leads Tells Turns line
    signal-go high t st S =
        let u : Tables = with_count t s.number (suc_ℤ (count_of t s.number)) in (
          u,
          signal-goes t z s.number w.0 s.below (used t st) (roomy t st) (ap below0 (sym (count t st)) ∙ high),
          subst (λ (k : ℤ). Stands (with_count t s.number k) b) (raises t st) (put t st),
          still S u refl,
        )
