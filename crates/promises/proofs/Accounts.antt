-- What one entry more does to a semaphore's account. Assumes nothing.
use Rattle.std.specs.Prelude.{if◌then◌else◌}
use Prim.Native.Nat.{ℕ}
use mathlib.Core.Bool.{Bool, true, false}
use mathlib.Core.List.{List, [], ◌∷◌, ◌++◌}
use mathlib.Core.Option.{Option, none, some}
use mathlib.Core.Path.{◌≡◌, refl, ap, ◌∙◌}
use lib.Dec.{eqb}
use lib.IntN.{ℤ, suc_ℤ, pred_ℤ}
use lib.ListN.{drop}
use Rattle.lists.specs.Lists.{filter, without}
use Rattle.lists.proofs.Bools.{split}
use Rattle.rules.specs.Calls.{below0}
use Rattle.promises.specs.Record.{standing, WaitNumber, stands, Account, still_blocked, take_smallest, strike, among, waited, signalled, killed, change}

pub blocked-snoc : (p : ℕ) (ws : List WaitNumber) → still_blocked (ws ++ record { process = p; fate = standing } ∷ []) ≡ still_blocked ws ++ p ∷ []
unfolding still_blocked
blocked-snoc p [] = refl
blocked-snoc p (w ∷ ws) = let ih = blocked-snoc p ws in split (stands w.fate) (λ b. rw (b, ih)) (λ b. rw (b, ih))

pub blocked-take : (ws : List WaitNumber) → still_blocked (take_smallest ws) ≡ drop 1 (still_blocked ws)
unfolding still_blocked take_smallest
blocked-take [] = refl
blocked-take (w ∷ ws) = let ih = blocked-take ws in split (stands w.fate) (λ b. rw b) (λ b. rw b (rw b ih))

pub blocked-strike : (p : ℕ) (ws : List WaitNumber) → still_blocked (strike p ws) ≡ without p (still_blocked ws)
unfolding still_blocked strike without filter
blocked-strike p [] = refl
blocked-strike p (w ∷ ws) =
    let ih = blocked-strike p ws in
    split (stands w.fate)
    (λ b. split (eqb w.process p) (λ d. rw (b, d) ih) (λ d. rw (b, d, ih, b)))
    (λ b. rw (b, b) ih)

-- An account is the one of a semaphore that is seen so

abbrev pub Agrees : Bool → ℤ → List ℕ → Option Account → Type 0
Agrees true c q none = ⊥
Agrees true c q (some n) = (n.count ≡ c) × (still_blocked n.waits ≡ q)
Agrees false c q none = Unit
Agrees false c q (some n) = ⊥

pub agrees-waited : (c : ℤ) (q : List ℕ) (p : ℕ) (old : Option Account) → Agrees true c q old → Agrees true (pred_ℤ c) (if below0 (pred_ℤ c) then q ++ p ∷ [] else q) (change (waited p) old)
unfolding waited
agrees-waited c q p none h = h
agrees-waited c q p (some n) h =
    (ap pred_ℤ h.0, rw (← h.0, ← h.1) (split (below0 (pred_ℤ n.count)) (λ b. rw b (blocked-snoc p n.waits)) (λ b. rw b)))

pub agrees-signalled : (c : ℤ) (q : List ℕ) (old : Option Account) → Agrees true c q old → Agrees true (suc_ℤ c) (if below0 c then drop 1 q else q) (change signalled old)
unfolding signalled
agrees-signalled c q none h = h
agrees-signalled c q (some n) h =
    (ap suc_ℤ h.0, rw (← h.0, ← h.1) (split (below0 n.count) (λ b. rw b (blocked-take n.waits)) (λ b. rw b)))

pub agrees-killed : (u : Bool) (c : ℤ) (q : List ℕ) (p : ℕ) (old : Option Account) → among p q ≡ true → Agrees u c q old → Agrees u (suc_ℤ c) (without p q) (change (killed p) old)
unfolding killed
agrees-killed true c q p none k h = h
agrees-killed true c q p (some n) k h = rw (h.1, k) (ap suc_ℤ h.0, blocked-strike p n.waits ∙ ap (without p) h.1)
agrees-killed false c q p none k h = tt
agrees-killed false c q p (some n) k h = h

pub agrees-spared : (u : Bool) (c : ℤ) (q : List ℕ) (p : ℕ) (old : Option Account) → among p q ≡ false → Agrees u c q old → Agrees u c q (change (killed p) old)
unfolding killed
agrees-spared true c q p none k h = h
agrees-spared true c q p (some n) k h = rw (h.1, k) h
agrees-spared false c q p none k h = tt
agrees-spared false c q p (some n) k h = h
