-- The semaphore that an argument names.
use Rattle.std.specs.Prelude.{ℕ, true, List, ◌∷◌, Result, Ok, Err, ◌≡◌, pos, ℤ}
use Rattle.layout.specs.Stands.{Stands, Tells}
use Rattle.layout.specs.declared.number.SemaphoreNumber.{SemaphoreNumber}
use Rattle.rules.specs.Answers.{Check, refusal_number, refused, unless}
use Rattle.rules.specs.Calls.{no_semaphore, not_used}
use Rattle.rules.specs.declared.Outcome.{Outcome}
use Rattle.rules.specs.declared.Refusal.{Refusal}
use Rattle.tables.specs.Readers.{is_used}
use Rattle.tables.specs.declared.Tables.{Tables}

-- the semaphore that a call goes on with, or the refusal that its first two checks give, whatever else the call checks and does
abbrev pub Chosen : ℤ → List ℕ → Result SemaphoreNumber Refusal → Type 0
Chosen a bs (Ok s) = (a ≡ pos s.number) × Tells (λ t. is_used t s.number) bs true
Chosen a bs (Err e) = (t : Tables) → Stands t bs → (cs : List Check) (o : Outcome) → unless (λ m. refused m t) (no_semaphore a ∷ not_used t a ∷ cs) o ≡ refused (refusal_number e) t
