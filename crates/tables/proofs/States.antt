-- A state that passes a test is the state that the test names. Assumes nothing.
use Prim.Native.Nat.{ℕ}
use mathlib.Core.Bool.{true, false, ◌||◌, false≢true}
use mathlib.Core.Option.{Option, none, some, none-ne-some, some-injective}
use mathlib.Core.Path.{◌≡◌, refl, ap}
use borrow.Author.Tests.{eqb-true}
use Rattle.lists.proofs.Bools.{split}
use Rattle.tables.specs.declared.State.{State}
use Rattle.tables.specs.declared.State.TheVariants.{Free, Current, Ready, Suspended, Waiting}
use Rattle.tables.specs.States.{is_free, is_current, is_ready, is_suspended, is_waiting, awaits, is_the, waits_on}

pub is_free_lem : (st : State) → is_free st ≡ true → st ≡ Free
is_free_lem Free h = refl
is_free_lem Current h = absurd (false≢true h)
is_free_lem Ready h = absurd (false≢true h)
is_free_lem Suspended h = absurd (false≢true h)
is_free_lem (Waiting s) h = absurd (false≢true h)

pub is-current : (st : State) → is_current st ≡ true → st ≡ Current
is-current Free h = absurd (false≢true h)
is-current Current h = refl
is-current Ready h = absurd (false≢true h)
is-current Suspended h = absurd (false≢true h)
is-current (Waiting s) h = absurd (false≢true h)

pub is-ready : (st : State) → is_ready st ≡ true → st ≡ Ready
is-ready Free h = absurd (false≢true h)
is-ready Current h = absurd (false≢true h)
is-ready Ready h = refl
is-ready Suspended h = absurd (false≢true h)
is-ready (Waiting s) h = absurd (false≢true h)

pub is-suspended : (st : State) → is_suspended st ≡ true → st ≡ Suspended
is-suspended Free h = absurd (false≢true h)
is-suspended Current h = absurd (false≢true h)
is-suspended Ready h = absurd (false≢true h)
is-suspended Suspended h = refl
is-suspended (Waiting s) h = absurd (false≢true h)

pub is-waiting : (st : State) → is_waiting st ≡ true → (s : ℕ) × (st ≡ Waiting s)
is-waiting Free h = absurd (false≢true h)
is-waiting Current h = absurd (false≢true h)
is-waiting Ready h = absurd (false≢true h)
is-waiting Suspended h = absurd (false≢true h)
is-waiting (Waiting s) h = (s, refl)

pub awaits-some : (st : State) (s : ℕ) → awaits st ≡ some s → st ≡ Waiting s
awaits-some Free s h = absurd (none-ne-some s h)
awaits-some Current s h = absurd (none-ne-some s h)
awaits-some Ready s h = absurd (none-ne-some s h)
awaits-some Suspended s h = absurd (none-ne-some s h)
awaits-some (Waiting r) s h = ap Waiting (some-injective r s h)

pub waits-on : (st : State) (s : ℕ) → waits_on s st ≡ true → st ≡ Waiting s
waits-on st s h = awaits-some st s (go (awaits st) h)
  where
    go : (w : Option ℕ) → is_the s w ≡ true → w ≡ some s
    go none k = absurd (false≢true k)
    go (some r) k = ap some (eqb-true r s k)

-- what follows

pub runs-no-waiter : (st : State) (s : ℕ) → (is_ready st || is_current st) ≡ true → waits_on s st ≡ false
runs-no-waiter st s h = split (is_ready st) (λ e. ap (waits_on s) (is-ready st e)) (λ e. ap (waits_on s) (is-current st (rw e at h)))

pub free-not-current : (st : State) → is_free st ≡ true → is_current st ≡ false
free-not-current st h = ap is_current (is_free_lem st h)
