-- What a call comes to, and what its end makes of it.
use Rattle.std.specs.Prelude.{ℕ, List, Result, Ok, Err, ◌≡◌}
use Rattle.layout.specs.Stands.{Does, Stands}
use Rattle.rules.specs.Answers.{refusal_number, refused}
use Rattle.rules.specs.Calls.{finish, plain, switching}
use Rattle.rules.specs.declared.Outcome.{Outcome}
use Rattle.rules.specs.declared.Refusal.{Refusal}
use Rattle.tables.specs.Readers.{current_of}
use Rattle.tables.specs.Sound.{Sound}
use Rattle.tables.specs.declared.Tables.{Tables}
use Rattle.scheduling.specs.Running.{Only}
use Rattle.scheduling.specs.declared.step.Step.{Step}
use Rattle.scheduling.specs.declared.step.Step.TheVariants.{Done, Switches}
use Rattle.scheduling.specs.declared.step.Told.{Told}

-- the end of a call: the one place that reschedules
abbrev pub ended : Tables → Result Step ℕ → Outcome
ended t (Err n) = refused n t
ended t (Ok (Done v)) = finish (plain v t)
ended t (Ok (Switches v)) = finish (switching v t)

-- a refusal by its number
abbrev pub by_number : Result Step Refusal → Result Step ℕ
by_number (Err e) = Err (refusal_number e)
by_number (Ok s) = Ok s

-- the answer, and who runs then
abbrev pub told : Outcome → Told
told o = record { answer = o.answer; running = current_of o.tables }

-- c is the current process of sound tables
abbrev pub Runs : ℕ → List ℕ → Type 0
Runs c bs = (t : Tables) → Stands t bs → Sound t → c ≡ current_of t

-- a call leads to tables whose end is what the rule says; nobody is current in them but the caller, if anybody is
unfoldable pub Leads : (Tables → Outcome) → List ℕ → List ℕ → Result Step Refusal → Type 0
Leads rule before after r = (t : Tables) → Stands t before → Sound t → (u : Tables) × (rule t ≡ ended u (by_number r)) × Stands u after × Only (current_of t) u

-- the end of such a call
unfoldable pub Ends : ℕ → Result Step ℕ → List ℕ → List ℕ → Told → Type 0
Ends c s before after r = (t : Tables) → Stands t before → Only c t → Sound (ended t s).tables → (r ≡ told (ended t s)) × Stands (ended t s).tables after

-- code that meets a rule: of bytes that are sound tables it answers as the rule does and tells who runs then, and they become the rule's tables
unfoldable pub Meets : (Tables → Outcome) → List ℕ → List ℕ → Told → Type 0
Meets rule before after r = Does (λ t. (rule t).tables) (λ t. told (rule t)) before after r
