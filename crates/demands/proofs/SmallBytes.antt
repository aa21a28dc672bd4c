-- Sound tables stand in bytes: every number that is written is below 256. Assumes nothing.
use Rattle.std.specs.Prelude.{if◌then◌else◌}
use Prim.Native.Nat.{◌%◌, ◌+◌, ◌-◌, ◌/◌, ◌<◌, ℕ}
use native.Mathlib.Omega.{arith}
use mathlib.Core.Bool.{Bool, false, true}
use mathlib.Core.Path.{◌≡◌}
use lib.Dec.{eqb, ltb}
use lib.ListN.{get_or-eq_default, get_or, length}
use mir.Syntax.{w32}
use mir.Val.{of_z}
use borrow.Author.Tests.{ltb-true}
use Rattle.layout.specs.Bytes.{byte_of, state_byte, to_bytes, used_byte, word_byte}
use Rattle.layout.specs.Offsets.{counts_at, next_process_at, next_semaphore_at, order_at, priorities_at, size, states_at, used_at}
use Rattle.tables.specs.Counts.{CountsFit}
use Rattle.tables.specs.Limits.{process_limit, semaphore_limit}
use Rattle.tables.specs.Readers.{count_of, is_used, priority_of, process, state_of}
use Rattle.tables.specs.Sound.{Sound}
use Rattle.tables.specs.declared.State.{State}
use Rattle.tables.specs.declared.State.TheVariants.{Current, Free, Ready, Suspended, Waiting}
use Rattle.tables.specs.declared.Tables.{Tables}
use Rattle.layout.proofs.Image.{byte_at, bytes-long}
use Rattle.lists.proofs.Bools.{below?, split}
use Rattle.tables.proofs.SlotLaws.{priority-top}
use Rattle.cottonsedge.proofs.Standing.{sound-held}
use Rattle.demands.specs.Demands.{Bytes}

-- whichever is chosen
chosen : (b : Bool) (x y : ℕ) → x < 256 → y < 256 → (if b then x else y) < 256
chosen true x y h k = h
chosen false x y h k = k

state-small : (st : State) → state_byte st < 256
state-small Free = omega arith
state-small Current = omega arith
state-small Ready = omega arith
state-small Suspended = omega arith
state-small (Waiting s) = split (ltb s semaphore_limit) (λ e. let h : s < semaphore_limit = ltb-true s semaphore_limit e in rw e (omega arith)) (λ e. rw e (omega arith))

used-small : (u : Bool) → used_byte u < 256
used-small true = omega arith
used-small false = omega arith

word_small : (n k : ℕ) → word_byte n k < 256
word_small n k = chosen (eqb k 0) _ _ (omega arith) (chosen (eqb k 1) _ _ (omega arith) (chosen (eqb k 2) _ _ (omega arith) (omega arith)))

module _ {t : Tables} (S : Sound t) (F : CountsFit t) where
  priority-small : (p : ℕ) → priority_of t p < 256
  priority-small p = let z = priority-top p (process t p) (S.laid.slot p) in omega arith

  place-small : (i : ℕ) → get_or t.order i 0 < 256
  place-small i =
      below? i process_limit (λ h. let k : get_or t.order i 0 < process_limit = (sound-held S F).row i h in omega arith)
      (λ h. let l : length t.order ≡ process_limit = S.laid.places in rw (get_or-eq_default t.order 0 {n = i} (omega arith)) (omega arith))

  byte_small : (i : ℕ) → byte_of t i < 256
  byte_small i =
      let c = S.laid.cursors in
      chosen (ltb i priorities_at) _ _ (state-small (state_of t (i - states_at)))
      (chosen (ltb i used_at) _ _ (priority-small (i - priorities_at))
      (chosen (ltb i counts_at) _ _ (used-small (is_used t (i - used_at)))
      (chosen (ltb i order_at) _ _ (word_small (of_z w32 (count_of t ((i - counts_at) / 4))) ((i - counts_at) % 4))
      (chosen (ltb i next_semaphore_at) _ _ (place-small (i - order_at))
      (chosen (ltb i next_process_at) _ _ (omega arith)
      (chosen (ltb i (next_process_at + 1)) _ _ (omega arith) (omega arith)))))))

  pub sound-bytes : Bytes (to_bytes t)
  sound-bytes i =
      below? i size (λ h. rw (byte_at t i h) (byte_small i))
      (λ h. let l : length (to_bytes t) ≡ size = bytes-long t in rw (get_or-eq_default (to_bytes t) 0 {n = i} (omega arith)) (omega arith))
