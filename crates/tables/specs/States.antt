-- Tests of a state. The lists of the tables go by these, and never by comparing states.
use Rattle.std.specs.Prelude.{ℕ, Bool, true, false, eqb}
use Rattle.std.proofs.Math.Option.{Option, none, some}
use Rattle.tables.specs.declared.State.{State}
use Rattle.tables.specs.declared.State.TheVariants.{Free, Current, Ready, Suspended, Waiting}

abbrev pub is_free : State → Bool
is_free Free = true
is_free Current = false
is_free Ready = false
is_free Suspended = false
is_free (Waiting s) = false

abbrev pub is_current : State → Bool
is_current Free = false
is_current Current = true
is_current Ready = false
is_current Suspended = false
is_current (Waiting s) = false

abbrev pub is_ready : State → Bool
is_ready Free = false
is_ready Current = false
is_ready Ready = true
is_ready Suspended = false
is_ready (Waiting s) = false

abbrev pub is_suspended : State → Bool
is_suspended Free = false
is_suspended Current = false
is_suspended Ready = false
is_suspended Suspended = true
is_suspended (Waiting s) = false

abbrev pub is_waiting : State → Bool
is_waiting Free = false
is_waiting Current = false
is_waiting Ready = false
is_waiting Suspended = false
is_waiting (Waiting s) = true

-- the semaphore that it waits on
abbrev pub awaits : State → Option ℕ
awaits Free = none
awaits Current = none
awaits Ready = none
awaits Suspended = none
awaits (Waiting s) = some s

abbrev pub is_the : ℕ → Option ℕ → Bool
is_the s none = false
is_the s (some r) = eqb r s

abbrev pub waits_on : ℕ → State → Bool
waits_on s st = is_the s (awaits st)
