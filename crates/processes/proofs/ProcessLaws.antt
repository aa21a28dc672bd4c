-- Resume, suspend and kill: the rule's equation for each state of the slot, and the chain of changes; and yield. Assumes nothing.
use Prim.Native.Nat.{◌<◌, ℕ}
use mathlib.Core.Bool.{false, true}
use mathlib.Core.List.{List, ◌∷◌}
use mathlib.Core.Logic.{◌⊎◌, inl, inr}
use mathlib.Core.Path.{◌∙◌, ◌≡◌, ap, refl, subst, sym}
use lib.IntN.{◌+ℤ◌, nat_abs, pos, suc_ℤ, ℤ}
use lib.ListN.{drop, length}
use borrow.Author.Tests.{eq-eqb, lt-leb, ne_eqb}
use Rattle.layout.specs.Stands.{Stands, Tells, Turns}
use Rattle.std.specs.Int.{saturate_signed}
use Rattle.std.specs.Prelude.{Err, IsErrAnd, Ok, Result}
use mir.Syntax.{w32}
use mir.Val.{SFits, of_z, to_z}
use mir.ValLaws.{to_z-of_z}
use Rattle.rules.specs.Answers.{refusal_number, refused}
use Rattle.rules.specs.declared.Call.{Call}
use Rattle.rules.specs.declared.Call.TheVariants.{Kill, Resume, Suspend, Yield}
use Rattle.rules.specs.declared.Refusal.{Refusal}
use Rattle.rules.specs.declared.Refusal.TheVariants.{NoSuchProcess, Process0}
use Rattle.scheduling.specs.declared.step.Step.{Step}
use Rattle.rules.specs.Calls.{checks, no_process, null_process, outside, state_refusal, step}
use Rattle.rules.specs.Schedule.{make_ready}
use Rattle.rules.specs.declared.Outcome.{Outcome}
use Rattle.scheduling.specs.Steps.{Leads, ended}
use Rattle.scheduling.specs.declared.step.Step.TheVariants.{Done, Switches}
use Rattle.tables.specs.Limits.{process_limit, semaphore_limit}
use Rattle.tables.specs.Readers.{count_of, free_slot, line, priority_of, process, state_of}
use Rattle.tables.specs.Setters.{in_state, with_count, with_process, with_state}
use Rattle.tables.specs.Sound.{Sound}
use Rattle.tables.specs.States.{is_current}
use Rattle.tables.specs.declared.Process.{Process}
use Rattle.tables.specs.declared.State.{State}
use Rattle.tables.specs.declared.State.TheVariants.{Current, Free, Ready, Suspended, Waiting}
use Rattle.tables.specs.declared.Tables.{Tables}
use Rattle.layout.proofs.Compose.{with-told}
use Rattle.arguments.proofs.CountLaws.{raise-sound}
use Rattle.scheduling.proofs.RunningLaws.{ready-still, slot-still, slot-stopped, still}
use Rattle.scheduling.proofs.StepLaws.{checks-refuse, passed-on, refuses}
use Rattle.tables.proofs.LineLaws.{live-once, live-slot}
use Rattle.tables.proofs.Sentences.{current-unique, waiter-below}

pub yield-follows : (bs : List ℕ) → Leads (λ t. step t Yield) bs bs (Ok (Switches (pos 1)))
unfolding Leads step
yield-follows bs t st S = (t, refl, st, still S t refl)

-- the first check, of a number that was passed on, and `?` passes the refusal on
pub process-outside : (z : ℤ) → SFits w32 z → (bs : List ℕ) (e : Refusal) (r : Result Step Refusal) → IsErrAnd r (λ x. x ≡ e) → (e ≡ NoSuchProcess) × (outside process_limit (to_z w32 (of_z w32 z)) ≡ true) → (call : Call) → ((t : Tables) → checks t call ≡ no_process z ∷ drop 1 (checks t call)) → Leads (λ t. step t call) bs bs r
process-outside z f bs e r is out call c =
    let far : outside process_limit z ≡ true = rw (to_z-of_z w32 z f) at out.1 in
    passed-on (λ t. step t call) bs bs NoSuchProcess r (subst (λ (n : Refusal). IsErrAnd r (λ x. x ≡ n)) out.0 is) (checks-refuse call NoSuchProcess bs (λ t. no_process z ∷ drop 1 (checks t call)) c (λ t st o. rw far refl))

abbrev pub resumed : ℕ → Tables → State → Outcome
resumed p t Free = refused (state_refusal Free) t
resumed p t Current = refused (state_refusal Current) t
resumed p t Ready = refused (state_refusal Ready) t
resumed p t Suspended = ended (make_ready t p) (Ok (Switches (pos (priority_of t p))))
resumed p t (Waiting q) = refused (state_refusal (Waiting q)) t

abbrev pub suspended : ℕ → Tables → State → Outcome
suspended p t Free = refused (state_refusal Free) t
suspended p t Current = ended (with_state t p Suspended) (Ok (Switches (pos (priority_of t p))))
suspended p t Ready = ended (with_state t p Suspended) (Ok (Done (pos (priority_of t p))))
suspended p t Suspended = refused (state_refusal Suspended) t
suspended p t (Waiting q) = refused (state_refusal (Waiting q)) t

abbrev pub killed : ℕ → Tables → State → Outcome
killed p t Free = refused (state_refusal Free) t
killed p t Current = ended (with_process t p free_slot) (Ok (Switches (pos 1)))
killed p t Ready = ended (with_process t p free_slot) (Ok (Done (pos 1)))
killed p t Suspended = ended (with_process t p free_slot) (Ok (Done (pos 1)))
killed p t (Waiting q) = ended (with_process (with_count t q (suc_ℤ (count_of t q))) p free_slot) (Ok (Done (pos 1)))

-- p is the process that an argument names, as it was passed on
module _ (z : ℤ) (f : SFits w32 z) (p : ℕ) (at : (to_z w32 (of_z w32 z) ≡ pos p) × (p < process_limit)) where
  is : z ≡ pos p
  is = sym (to_z-of_z w32 z f) ∙ at.0

  below : p < process_limit
  below = at.1

  pub process-null : (call : Call) (bs : List ℕ) → ((t : Tables) → checks t call ≡ no_process z ∷ null_process (nat_abs z) ∷ drop 2 (checks t call)) → p ≡ 0 → Leads (λ t. step t call) bs bs (Err Process0)
  process-null call bs e zero = checks-refuse call Process0 bs (λ t. no_process z ∷ null_process (nat_abs z) ∷ drop 2 (checks t call)) e (λ t st o. rw (is, lt-leb process_limit p below, eq-eqb p 0 zero) refl)

  pub resume-by : (t : Tables) (k : State) → state_of t p ≡ k → step t (Resume z) ≡ resumed p t k
  unfolding step
  resume-by t Free e = rw (is, lt-leb process_limit p below, e) refl
  resume-by t Current e = rw (is, lt-leb process_limit p below, e) refl
  resume-by t Ready e = rw (is, lt-leb process_limit p below, e) refl
  resume-by t Suspended e = rw (is, lt-leb process_limit p below, e) refl
  resume-by t (Waiting q) e = rw (is, lt-leb process_limit p below, e) refl

  module _ (n : p ≡ 0 → ⊥) where
    pub suspend-by : (t : Tables) (k : State) → state_of t p ≡ k → step t (Suspend z) ≡ suspended p t k
    unfolding step
    suspend-by t Free e = rw (is, lt-leb process_limit p below, ne_eqb p 0 n, e) refl
    suspend-by t Current e = rw (is, lt-leb process_limit p below, ne_eqb p 0 n, e) refl
    suspend-by t Ready e = rw (is, lt-leb process_limit p below, ne_eqb p 0 n, e) refl
    suspend-by t Suspended e = rw (is, lt-leb process_limit p below, ne_eqb p 0 n, e) refl
    suspend-by t (Waiting q) e = rw (is, lt-leb process_limit p below, ne_eqb p 0 n, e) refl

    pub kill-by : (t : Tables) (k : State) → state_of t p ≡ k → step t (Kill z) ≡ killed p t k
    unfolding step
    kill-by t Free e = rw (is, lt-leb process_limit p below, ne_eqb p 0 n, e) refl
    kill-by t Current e = rw (is, lt-leb process_limit p below, ne_eqb p 0 n, e, e) refl
    kill-by t Ready e = rw (is, lt-leb process_limit p below, ne_eqb p 0 n, e, e) refl
    kill-by t Suspended e = rw (is, lt-leb process_limit p below, ne_eqb p 0 n, e, e) refl
    kill-by t (Waiting q) e = rw (is, lt-leb process_limit p below, ne_eqb p 0 n, e, e) refl

  module _ (a : List ℕ) (x : Process) (told : p < process_limit → Tells (λ t. process t p) a x) where
    state : (k : State) → x.state ≡ k → (t : Tables) → Stands t a → state_of t p ≡ k
    unfolding Tells
    state k e t st = ap (λ (y : Process). y.state) (sym (told below t st)) ∙ e

    value : (v : ℤ) → v ≡ pos x.priority → (t : Tables) → Stands t a → pos (priority_of t p) ≡ v
    unfolding Tells
    value v e t st = ap (λ (y : Process). pos y.priority) (sym (told below t st)) ∙ sym e

    slot : {t : Tables} → Sound t → p < length t.processes
    slot S = live-slot S.laid p below

    -- a state that the call isn't for: it refuses, with the number that names it
    pub wrong-state : (call : Call) (n : Refusal) {result : Tables → State → Outcome} {k : State} → ((t : Tables) (k : State) → state_of t p ≡ k → step t call ≡ result t k) → x.state ≡ k → ((t : Tables) → result t k ≡ refused (refusal_number n) t) → Leads (λ t. step t call) a a (Err n)
    wrong-state call n {result = result} {k = k} by e r = refuses (λ t. step t call) n a (λ t st S. by t k (state k e t st) ∙ r t)

    pub resume-done : (v : ℤ) (b : List ℕ) → v ≡ pos x.priority → x.state ≡ Suspended → (p < process_limit → Turns (λ t. make_ready t p) a b) → Leads (λ t. step t (Resume z)) a b (Ok (Switches v))
    unfolding Leads Turns
    resume-done v b r e join t st S =
        let s = state Suspended e t st in (
          make_ready t p,
          resume-by t Suspended s ∙ ap (λ (y : ℤ). ended (make_ready t p) (Ok (Switches y))) (value v r t st),
          join below t st,
          ready-still S t refl p (slot S) (live-once S.laid p below) (ap is_current s),
        )

    module _ (n : p ≡ 0 → ⊥) where
      module _ (b : List ℕ) (stop : p < process_limit → Turns (λ t. with_state t p Suspended) a b) (v : ℤ) (r : v ≡ pos x.priority) where
        pub suspend-ready : x.state ≡ Ready → Leads (λ t. step t (Suspend z)) a b (Ok (Done v))
        unfolding Leads Turns
        suspend-ready e t st S =
            let s = state Ready e t st in (
              with_state t p Suspended,
              suspend-by n t Ready s ∙ ap (λ (y : ℤ). ended (with_state t p Suspended) (Ok (Done y))) (value v r t st),
              stop below t st,
              slot-still S t refl p (slot S) (in_state Suspended (process t p)) refl (ap is_current s),
            )

        pub suspend-current : x.state ≡ Current → Leads (λ t. step t (Suspend z)) a b (Ok (Switches v))
        unfolding Leads Turns
        suspend-current e t st S =
            let s = state Current e t st in (
              with_state t p Suspended,
              suspend-by n t Current s ∙ ap (λ (y : ℤ). ended (with_state t p Suspended) (Ok (Switches y))) (value v r t st),
              stop below t st,
              slot-stopped S t refl p (slot S) (in_state Suspended (process t p)) refl (current-unique S p (ap is_current s)),
            )

      module _ (b : List ℕ) (free : p < process_limit → Turns (λ t. with_process t p free_slot) a b) where
        still-stopped : (k : State) → ((t : Tables) → killed p t k ≡ ended (with_process t p free_slot) (Ok (Done (pos 1)))) → is_current k ≡ false → x.state ≡ k → Leads (λ t. step t (Kill z)) a b (Ok (Done (pos 1)))
        unfolding Leads Turns
        still-stopped k r idle e t st S =
            let s = state k e t st in
            (with_process t p free_slot, kill-by n t k s ∙ r t, free below t st, slot-still S t refl p (slot S) free_slot refl (ap is_current s ∙ idle))

        pub kill-still : (x.state ≡ Ready) ⊎ (x.state ≡ Suspended) → Leads (λ t. step t (Kill z)) a b (Ok (Done (pos 1)))
        kill-still (inl e) = still-stopped Ready (λ t. refl) refl e
        kill-still (inr e) = still-stopped Suspended (λ t. refl) refl e

        pub kill-current : x.state ≡ Current → Leads (λ t. step t (Kill z)) a b (Ok (Switches (pos 1)))
        unfolding Leads Turns
        kill-current e t st S =
            let s = state Current e t st in
            (with_process t p free_slot, kill-by n t Current s, free below t st, slot-stopped S t refl p (slot S) free_slot refl (current-unique S p (ap is_current s)))

      pub kill-waiting : (q : ℕ) (b d : List ℕ) → x.state ≡ Waiting q → (q < semaphore_limit → Turns (λ t. with_count t q (saturate_signed w32 (count_of t q +ℤ pos 1))) a b) → (p < process_limit → Turns (λ t. with_process t p free_slot) b d) → Leads (λ t. step t (Kill z)) a d (Ok (Done (pos 1)))
      unfolding Leads Turns line
      kill-waiting q b d e up free t st S =
          let s : state_of t p ≡ Waiting q = state (Waiting q) e t st in
          let u : Tables = with_count t q (suc_ℤ (count_of t q)) in (
            with_process u p free_slot,
            kill-by n t (Waiting q) s,
            free below u (subst (λ (y : ℤ). Stands (with_count t q y) b) (raise-sound S p q (st.held.fits q) s) (up (waiter-below S p q s) t st)),
            slot-still S u refl p (slot S) free_slot refl (ap is_current s),
          )

-- one waiter less
pub raise-turns : (s : ℕ) (n m : ℤ) (a b : List ℕ) → Tells (λ t. count_of t s) a n → m ≡ saturate_signed w32 (n +ℤ pos 1) → Turns (λ t. with_count t s m) a b → Turns (λ t. with_count t s (saturate_signed w32 (count_of t s +ℤ pos 1))) a b
raise-turns s n m a b told e put = with-told (λ t. count_of t s) a n told (λ k t. with_count t s (saturate_signed w32 (k +ℤ pos 1))) b (rw e at put)
