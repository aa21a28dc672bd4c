-- What a row says of the process whose row it is. Assumes nothing.
use Prim.Native.Nat.{◌<◌, ℕ}
use mathlib.Core.Bool.{true}
use mathlib.Core.List.{List}
use mathlib.Core.Option.{none}
use mathlib.Core.Path.{◌∙◌, ◌≡◌, ap, refl}
use lib.ListN.{get_or}
use borrow.Author.Tests.{lt-ltb}
use Rattle.layout.specs.Bytes.{from_bytes, state_byte, well_formed}
use Rattle.layout.specs.Stands.{Named, Tells}
use Rattle.lists.specs.Lists.{place_in}
use Rattle.std.specs.Option.{unwrap_or}
use Rattle.std.specs.Prelude.{IfSome, Option}
use Rattle.order.specs.Row.{head}
use Rattle.status.proofs.LiveLaws.{below-or-0, first_found}
use Rattle.order.specs.Row.{place_among}
use Rattle.tables.specs.Limits.{process_limit, semaphore_limit}
use Rattle.tables.specs.Readers.{process}
use Rattle.tables.specs.States.{awaits}
use Rattle.tables.specs.declared.Process.{Process}
use Rattle.tables.specs.declared.State.{State}
use Rattle.tables.specs.declared.State.TheVariants.{Current, Free, Ready, Suspended, Waiting}
use Rattle.layout.proofs.Image.{stands_read}
use Rattle.order.proofs.Found.{line-queue}
use Rattle.status.specs.declared.Row.{Row}
use Rattle.status.specs.Rows.{awaited_shown, place_shown, row_of, state_number}
use Rattle.status.specs.Search.{live_from, row_from}

-- Its place, by its state

pub none-awaited : (st : State) → ((s : ℕ) → st ≡ Waiting s → ⊥) → awaits st ≡ none
none-awaited Free n = refl
none-awaited Current n = refl
none-awaited Ready n = refl
none-awaited Suspended n = refl
none-awaited (Waiting s) n = absurd (n s refl)

module _ (bs : List ℕ) (p : ℕ) (st : State) where
  pub place-of-none : awaits st ≡ none → Named st → Tells (λ t. place_shown t p (awaits st)) bs 0
  unfolding Tells
  place-of-none e named t stands = rw e

  -- the place among those with its byte is the place in the queue
  pub place-of-waiter : (s b r : ℕ) → st ≡ Waiting s → b ≡ state_byte (Waiting s) → Tells (place_among b p) bs r → Named st → Tells (λ t. place_shown t p (awaits st)) bs r
  unfolding Tells
  place-of-waiter s b r e eb told named t stands =
      let h : s < semaphore_limit = rw e at named in
      rw e (told t stands ∙ ap (λ (c : ℕ). place_among c p t) (eb ∙ rw (lt-ltb s semaphore_limit h)) ∙ ap (place_in p) (line-queue t s h))

-- a row, by what was read of the slot
module _ (bs : List ℕ) (p : ℕ) (x : Process) (n a k : ℕ) where
  pub row-tells : (p < process_limit → Tells (λ t. process t p) bs x) → n ≡ state_number x.state → a ≡ awaited_shown (awaits x.state) → (Named x.state → Tells (λ t. place_shown t p (awaits x.state)) bs k)
      → p < process_limit → Tells (λ t. row_of t p) bs (record { number = p; state = n; priority = x.priority; awaited = a; place = k })
  unfolding Tells
  row-tells slot en ea ek h t st =
      let e : x ≡ process t p = slot h t st in
      let named : Named x.state = rw e (st.held.waits p h) in
      rw (en, ea, ek named t st, e)

-- in well-formed bytes that is the row of the tables that they stand for
pub row-from-is : (bs : List ℕ) (p q : ℕ) (r : Option ℕ) (x : Row) → ((j : ℕ) → get_or bs j 0 < 256) → well_formed bs ≡ true → IfSome r (λ i. i < process_limit) → Tells (λ t. head (live_from t p)) bs r → q ≡ unwrap_or r 0
    → (q < process_limit → Tells (λ t. row_of t q) bs x) → x ≡ row_from (from_bytes bs) p
unfolding Tells
row-from-is bs p q r x byte wf below told e row =
    let t = from_bytes bs in
    let st = stands_read bs byte wf in
    row (rw e (below-or-0 r below)) t st ∙ ap (row_of t) (e ∙ rw (told t st) (first_found (live_from t p)))
