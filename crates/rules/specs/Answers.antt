-- Answers, and the paper's number and value for each.
use Rattle.std.specs.Prelude.{if◌then◌else◌, ℕ, eqb, leb, ltb, ℤ, negsuc, Bool, true, false, not, ◌&&◌, ◌||◌, List, [], ◌∷◌, ◌≡◌}
use Rattle.lists.specs.Lists.{Each}
use Rattle.tables.specs.declared.Tables.{Tables}
use Rattle.rules.specs.declared.Answer.{Answer}
use Rattle.rules.specs.declared.Answer.TheVariants.{Done, Refused}
use Rattle.rules.specs.declared.Refusal.{Refusal}
use Rattle.rules.specs.declared.Refusal.TheVariants.{NoSuchSemaphore, SemaphoreFree, CountBelow0, AllUsed, CountLargest, NoSuchProcess, SlotFree, AllLive, FoundSuspended, Process0, NoSuchPriority, WrongLine, NoSuchCall, SpareArgument, NotSound, FewRows, FoundCurrent, FoundReady, FoundWaiting}
use Rattle.rules.specs.declared.Outcome.{Outcome}

-- the refusal number, 0 for none
abbrev pub number_of : Answer → ℕ
number_of (Done v) = 0
number_of (Refused n) = n

-- the value, -1 of every refused call
abbrev pub value_of : Answer → ℤ
value_of (Done v) = v
value_of (Refused n) = negsuc 0

-- the paper's number of each refusal
abbrev pub refusal_number : Refusal → ℕ
refusal_number NoSuchSemaphore = 1
refusal_number SemaphoreFree = 2
refusal_number CountBelow0 = 3
refusal_number AllUsed = 4
refusal_number CountLargest = 5
refusal_number NoSuchProcess = 6
refusal_number SlotFree = 7
refusal_number AllLive = 8
refusal_number FoundSuspended = 9
refusal_number Process0 = 10
refusal_number NoSuchPriority = 11
refusal_number WrongLine = 12
refusal_number NoSuchCall = 13
refusal_number SpareArgument = 14
refusal_number NotSound = 15
refusal_number FewRows = 16
refusal_number FoundCurrent = 17
refusal_number FoundReady = 18
refusal_number FoundWaiting = 19

-- The numbers that a call on sound tables may be refused with

abbrev pub last_refusal : ℕ
last_refusal = 19

-- 12 is for a line of the bench, 15 for tables that aren't sound, 16 for the status page
abbrev pub elsewhere : ℕ → Bool
elsewhere n = eqb n 12 || eqb n 15 || eqb n 16

abbrev pub may_refuse : ℕ → Bool
may_refuse n = ltb 0 n && (leb n last_refusal && not (elsewhere n))

-- an answer that is no refusal, or one with such a number
abbrev pub Ranged : Answer → Type 0
Ranged (Done v) = Unit
Ranged (Refused n) = may_refuse n ≡ true

-- Outcomes

abbrev pub done : ℤ → Tables → Outcome
done v t = record { tables = t; answer = Done v }

abbrev pub refused : ℕ → Tables → Outcome
refused n t = record { tables = t; answer = Refused n }

-- a refusal number, given when its test holds
infix 4 ◌when◌
pub record Check : Type 0 where
  pub number : ℕ
  pub holds : Bool

abbrev pub ◌when◌ : ℕ → Bool → Check
n when b = record { number = n; holds = b }

-- of several the first counts: it is refused so, and else it is done
abbrev pub unless : {A : Type 0} → (ℕ → A) → List Check → A → A
unless refuse [] o = o
unless refuse (c ∷ cs) o = if c.holds then refuse c.number else unless refuse cs o

abbrev pub NoneHolds : List Check → Type 0
NoneHolds cs = Each (λ c. c.holds ≡ false) cs
