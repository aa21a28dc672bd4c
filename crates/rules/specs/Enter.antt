-- A call by its number: 15, 13 and 14 in that order, then the call's own checks.
use Rattle.std.specs.Prelude.{if◌then◌else◌, ℕ, zero, suc, ℤ, pos, negsuc, eqb, Bool, false, not, ◌||◌, List, [], ◌∷◌, ◌≡◌, Result, Ok, Err}
use Rattle.std.proofs.Math.Option.{Option, none, some}
use Rattle.tables.specs.declared.Tables.{Tables}
use Rattle.tables.specs.Readers.{current_of, nobody}
use Rattle.tables.specs.Test.{sound_now}
use Rattle.rules.specs.declared.Refusal.{Refusal}
use Rattle.rules.specs.declared.Refusal.TheVariants.{NoSuchCall, SpareArgument}
use Rattle.rules.specs.declared.Outcome.{Outcome}
use Rattle.rules.specs.declared.Reply.{Reply}
use Rattle.rules.specs.Answers.{◌when◌, unless, refused}
use Rattle.rules.specs.declared.Call.{Call}
use Rattle.rules.specs.declared.Call.TheVariants.{Wait, Signal, MakeSemaphore, Delete, Reset, MakeProcess, Resume, Suspend, Kill, Yield, Count}
use Rattle.rules.specs.Calls.{step}

-- a call and the arguments that it uses
pub data Form : Type 0 where
  neither : Call → Form
  first : (ℤ → Call) → Form
  both : (ℤ → ℤ → Call) → Form

-- the paper's calls, 01 to 0b: the call with number n is line n
abbrev pub forms : List Form
forms =
    first Wait
    ∷ first Signal
    ∷ first MakeSemaphore
    ∷ first Delete
    ∷ both Reset
    ∷ first MakeProcess
    ∷ first Resume
    ∷ first Suspend
    ∷ first Kill
    ∷ neither Yield
    ∷ first Count
    ∷ []

-- a line counted from 0, none past the end
abbrev pub line_of : List Form → ℕ → Option Form
line_of [] n = none
line_of (f ∷ fs) zero = some f
line_of (f ∷ fs) (suc n) = line_of fs n

-- a line counted from 1
abbrev pub form_of : ℕ → Option Form
form_of zero = none
form_of (suc n) = line_of forms n

abbrev pub call_of : Form → ℤ → ℤ → Call
call_of (neither c) a b = c
call_of (first c) a b = c a
call_of (both c) a b = c a b

abbrev pub is_zero : ℤ → Bool
is_zero (pos n) = eqb n 0
is_zero (negsuc n) = false

-- an argument that the call doesn't use isn't 0
abbrev pub spare : Form → ℤ → ℤ → Bool
spare (neither c) a b = not (is_zero a) || not (is_zero b)
spare (first c) a b = not (is_zero b)
spare (both c) a b = false

abbrev pub called : Tables → Option Form → ℤ → ℤ → Outcome
called t none a b = refused 13 t
called t (some f) a b = unless (λ n. refused n t) ((14 when spare f a b) ∷ []) (step t (call_of f a b))

-- a call on sound tables
unfoldable pub numbered : Tables → ℕ → ℤ → ℤ → Outcome
numbered t n a b = called t (form_of n) a b

-- which call a number and two arguments are, or why they are none, whatever the tables
abbrev pub read : Option Form → ℤ → ℤ → Result Call Refusal
read none a b = Err NoSuchCall
read (some f) a b = if spare f a b then Err SpareArgument else Ok (call_of f a b)

abbrev pub Reads : ℕ → ℤ → ℤ → Result Call Refusal → Type 0
Reads n a b r = r ≡ read (form_of n) a b

-- a call on any tables: those that aren't sound come back as they came
unfoldable pub enter : Tables → ℕ → ℤ → ℤ → Reply
enter t n a b =
    let o : Outcome = numbered t n a b in
    if sound_now t then record { outcome = o; running = current_of o.tables } else record { outcome = refused 15 t; running = nobody }
