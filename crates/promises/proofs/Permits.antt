-- The null process takes no permits: no accepted wait of any record has caller 0. Assumes nothing.
use Rattle.std.specs.Prelude.{if◌then◌else◌}
use Prim.Native.Nat.{ℕ}
use mathlib.Core.Bool.{Bool, false, true, true≢false}
use mathlib.Core.List.{List, [], ◌∷◌}
use mathlib.Core.Logic.{◌≢◌}
use mathlib.Core.Path.{◌∙◌, ◌≡◌, ap, refl, sym}
use lib.IntN.{ℤ}
use Rattle.tables.specs.declared.Tables.{Tables}
use Rattle.tables.specs.Readers.{current_of}
use Rattle.rules.specs.declared.Call.{Call}
use Rattle.rules.specs.declared.Call.TheVariants.{Wait, Signal, MakeSemaphore, Delete, Reset, MakeProcess, Resume, Suspend, Kill, Yield, Count}
use Rattle.rules.specs.Calls.{Accepted, deed}
use Rattle.rules.proofs.Refusals.{null-waits-none}
use Rattle.promises.specs.Record.{Event, Sets, Ends, Signals, Waits, Kills, Nothing, NoNullWait, Request, accepted, after, entry_of, event, names, record_of}
use Rattle.promises.proofs.Events.{event-cases}

abbrev is_wait : Event → Bool
is_wait (Sets c) = false
is_wait Ends = false
is_wait Signals = false
is_wait Waits = true
is_wait (Kills p) = false
is_wait Nothing = false

-- where it is of another semaphore it is nothing
named : (b : Bool) (x : Event) → is_wait x ≡ false → is_wait (if b then x else Nothing) ≡ false
named true x h = h
named false x h = refl

module _ (t : Tables) (z : current_of t ≡ 0) (s : ℕ) where
  call-waits-not : (c : Call) (v : ℤ) → Accepted t c → is_wait (accepted s c v) ≡ false
  call-waits-not (Wait a) v k = absurd (null-waits-none t z (Wait a) k a refl)
  call-waits-not (Signal a) v k = named (names a s) Signals refl
  call-waits-not (MakeSemaphore a) v k = named (names v s) (Sets a) refl
  call-waits-not (Delete a) v k = named (names a s) Ends refl
  call-waits-not (Reset a b) v k = named (names a s) (Sets b) refl
  call-waits-not (MakeProcess a) v k = refl
  call-waits-not (Resume a) v k = refl
  call-waits-not (Suspend a) v k = refl
  call-waits-not (Kill a) v k = refl
  call-waits-not Yield v k = refl
  call-waits-not (Count a) v k = refl

  entry-waits-not : (q : Request) → event s (entry_of t q) ≢ Waits
  entry-waits-not q e = true≢false (sym (ap is_wait e) ∙ event-cases t q s (λ t' x. is_wait x ≡ false) refl (λ c. call-waits-not c (deed t c).value))

-- from any tables
pub no-null-wait : (start : Tables) (requests : List Request) → NoNullWait (record_of start requests)
unfolding record_of
no-null-wait start [] = tt
no-null-wait start (q ∷ earlier) = (λ z s. entry-waits-not (after start earlier) z s q, no-null-wait start earlier)
