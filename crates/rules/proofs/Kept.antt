-- Every call keeps the tables sound. Assumes nothing.
use Prim.Native.Nat.{ℕ}
use mathlib.Core.Bool.{true, true≢false}
use mathlib.Core.List.{List}
use mathlib.Core.Option.{Option, none, some}
use mathlib.Core.Path.{◌≡◌, refl}
use lib.IntN.{ℤ}
use Rattle.tables.specs.declared.Tables.{Tables}
use Rattle.tables.specs.States.{awaits}
use Rattle.tables.specs.Readers.{state_of, count_of, queue, current_of}
use Rattle.tables.specs.Sound.{Counted, Sound}
use Rattle.tables.proofs.States.{awaits-some}
use Rattle.tables.proofs.Sentences.{sentences}
use Rattle.rules.specs.declared.Call.{Call}
use Rattle.rules.specs.Calls.{deed, finish, step}
use Rattle.rules.specs.Enter.{call_of, numbered}
use Rattle.rules.proofs.Effects.{Effect, effect-sound, settled-sound}
use Rattle.rules.proofs.WaitSignal.{counted-wait, counted-signal}
use Rattle.rules.proofs.Slots.{counted-kill}
use Rattle.rules.proofs.Refusals.{step-cases, numbered-cases}
use Rattle.rules.proofs.Changes.{Change, untouched, lowered, raised, rewritten, loses, change_of, Loses, Becomes, Allowed, call-changes}

module _ {t : Tables} (S : Sound t) where
  by-use : {t' : Tables} {s : ℕ} {c : ℤ} {q : List ℕ} → Effect t t' s true c q → Counted c q → Sound t'
  by-use E h = effect-sound S E h (λ k. absurd (true≢false k))

  loses-sound : {t' : Tables} (p : ℕ) (w : Option ℕ) → awaits (state_of t p) ≡ w → Loses t p w t' → Sound t'
  loses-sound p none e g = settled-sound S g
  loses-sound p (some s) e E = by-use E (counted-kill (count_of t s) (queue t s) p (S.queued.counted s) ((sentences S).queued_once p s (awaits-some (state_of t p) s e)))

  change-sound : (x : Change) (t' : Tables) → Allowed t x × Becomes t x t' → Sound t'
  change-sound untouched t' (k, g) = settled-sound S g
  change-sound (lowered s) t' (k, E) = by-use E (counted-wait (count_of t s) (queue t s) (current_of t) (S.queued.counted s))
  change-sound (raised s) t' (k, E) = by-use E (counted-signal (count_of t s) (queue t s) (S.queued.counted s))
  change-sound (rewritten s x) t' ((k, m), E) = effect-sound S E k m
  change-sound (loses p) t' (k, g) = loses-sound p (awaits (state_of t p)) refl g

  pub sound-step : (c : Call) → Sound (step t c).tables
  sound-step c = step-cases t (λ o. Sound o.tables) (λ n. S) c (λ k. change-sound (change_of t c) (finish (deed t c)).tables (call-changes S c k))

  pub sound-numbered : (n : ℕ) (a b : ℤ) → Sound (numbered t n a b).tables
  sound-numbered n a b = numbered-cases t (λ o. Sound o.tables) (λ m. S) n a b (λ f k. sound-step (call_of f a b))
