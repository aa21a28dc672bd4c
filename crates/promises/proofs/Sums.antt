-- The count of an account is the sum that demand 3 names. Assumes nothing.
use Prim.Native.Nat.{ℕ}
use mathlib.Core.List.{List, [], ◌∷◌}
use mathlib.Core.Option.{Option, none, some}
use mathlib.Core.Path.{◌≡◌, sym, ap, ◌∙◌}
use lib.IntN.{ℤ, pos, suc_ℤ, pred_ℤ, neg_ℤ, ◌+ℤ◌, ◌-ℤ◌, +ℤ_idr, +ℤ-suc_ℤ, +ℤ-pred_ℤ, suc_ℤ-+ℤ, pred_ℤ-+ℤ, neg_ℤ-suc_ℤ}
use Rattle.lists.proofs.Bools.{split}
use Rattle.promises.specs.Record.{Entry, Account, still_blocked, among, waited, signalled, killed, change, Event, Sets, Ends, Signals, Waits, Kills, Nothing, event, noted, account}
use Rattle.promises.specs.Sum.{Sum, amount, one_signal, one_wait, one_kill, added, sum_of}

-- One more of each

module _ (n : Sum) where
  amount-signal : amount (one_signal n) ≡ suc_ℤ (amount n)
  amount-signal =
      ap (λ (c : ℤ). c -ℤ pos n.waits +ℤ pos n.kills) (+ℤ-suc_ℤ n.last (pos n.signals))
      ∙ ap (λ (c : ℤ). c +ℤ pos n.kills) (suc_ℤ-+ℤ (n.last +ℤ pos n.signals) (neg_ℤ (pos n.waits)))
      ∙ suc_ℤ-+ℤ (n.last +ℤ pos n.signals -ℤ pos n.waits) (pos n.kills)

  amount-wait : amount (one_wait n) ≡ pred_ℤ (amount n)
  amount-wait =
      ap (λ (c : ℤ). n.last +ℤ pos n.signals +ℤ c +ℤ pos n.kills) (neg_ℤ-suc_ℤ (pos n.waits))
      ∙ ap (λ (c : ℤ). c +ℤ pos n.kills) (+ℤ-pred_ℤ (n.last +ℤ pos n.signals) (neg_ℤ (pos n.waits)))
      ∙ pred_ℤ-+ℤ (n.last +ℤ pos n.signals -ℤ pos n.waits) (pos n.kills)

  amount-kill : amount (one_kill n) ≡ suc_ℤ (amount n)
  amount-kill = +ℤ-suc_ℤ (n.last +ℤ pos n.signals -ℤ pos n.waits) (pos n.kills)

-- An account and a sum go together

abbrev pub Sums : Option Account → Option Sum → Type 0
Sums none none = Unit
Sums none (some m) = ⊥
Sums (some n) none = ⊥
Sums (some n) (some m) = n.count ≡ amount m

sums-change : (f : Account → Account) (g : Sum → Sum) → ((n : Account) (m : Sum) → n.count ≡ amount m → (f n).count ≡ amount (g m)) → (old : Option Account) (sum : Option Sum) → Sums old sum → Sums (change f old) (change g sum)
sums-change f g k none none h = tt
sums-change f g k none (some m) h = absurd h
sums-change f g k (some n) none h = absurd h
sums-change f g k (some n) (some m) h = k n m h

sums-killed : (p : ℕ) (old : Option Account) (sum : Option Sum) → Sums old sum → Sums (noted p (Kills p) old) (added (Kills p) old sum)
unfolding killed
sums-killed p none none h = tt
sums-killed p none (some m) h = absurd h
sums-killed p (some n) none h = absurd h
sums-killed p (some n) (some m) h = split (among p (still_blocked n.waits)) (λ b. rw b (ap suc_ℤ h ∙ sym (amount-kill m))) (λ b. rw b h)

sums-noted : (p : ℕ) (x : Event) (old : Option Account) (sum : Option Sum) → Sums old sum → Sums (noted p x old) (added x old sum)
unfolding waited signalled
sums-noted p (Sets c) old sum h = sym (+ℤ_idr (c +ℤ pos 0 +ℤ pos 0) ∙ +ℤ_idr (c +ℤ pos 0) ∙ +ℤ_idr c)
sums-noted p Ends old sum h = tt
sums-noted p Signals old sum h = sums-change signalled one_signal (λ n m e. ap suc_ℤ e ∙ sym (amount-signal m)) old sum h
sums-noted p Waits old sum h = sums-change (waited p) one_wait (λ n m e. ap pred_ℤ e ∙ sym (amount-wait m)) old sum h
sums-noted p (Kills q) old sum h = sums-killed q old sum h
sums-noted p Nothing old sum h = h

-- of every record
pub record-sums : (s : ℕ) (es : List Entry) → Sums (account s es) (sum_of s es)
unfolding account sum_of
record-sums s [] = tt
record-sums s (e ∷ earlier) = sums-noted e.caller (event s e) (account s earlier) (sum_of s earlier) (record-sums s earlier)
