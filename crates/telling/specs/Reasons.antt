-- The table of refusal numbers in the paper's words: when each is given, and in which order a call's are looked at.
use Rattle.std.specs.Prelude.{if◌then◌else◌, ℕ, ◌≤◌, ◌<◌, Bool, true, false, ◌||◌, List, [], ◌∷◌, ◌≢◌, ◌↔◌, ◌⊎◌, ◌≡◌, eqb, ℤ, pos, nat_abs, ◌≤ℤ◌, ◌<ℤ◌}
use Rattle.std.proofs.Math.Option.{Option, none, some}
use Rattle.tables.specs.declared.State.{State}
use Rattle.tables.specs.declared.State.TheVariants.{Free, Current, Ready, Suspended, Waiting}
use Rattle.tables.specs.declared.Tables.{Tables}
use Rattle.tables.specs.Limits.{process_limit, semaphore_limit, priority_limit}
use Rattle.tables.specs.States.{is_free, is_current, is_ready, is_suspended, is_waiting}
use Rattle.tables.specs.Readers.{state_of, is_used, count_of, current_of}
use Rattle.tables.specs.Sound.{Sound}
use Rattle.rules.specs.Answers.{Check}
use Rattle.rules.specs.declared.Call.{Call}
use Rattle.rules.specs.declared.Call.TheVariants.{Wait, Signal, MakeSemaphore, Delete, Reset, MakeProcess, Resume, Suspend, Kill, Yield, Count}
use Rattle.rules.specs.Enter.{Form, form_of, call_of}

-- a refusal number, and when it is given
pub record Reason : Type 1 where
  pub number : ℕ
  pub holds : Type 0

infix 1 ◌given◌
abbrev pub ◌given◌ : ℕ → Type 0 → Reason
n given P = record { number = n; holds = P }

-- check c has the number of reason r, and holds exactly when r does
abbrev pub Exactly : Check → Reason → Type 0
Exactly c r = (c.number ≡ r.number) × ((c.holds ≡ true) ↔ r.holds)

-- n is the number of the first of these reasons that holds
abbrev pub FirstOf : List Reason → ℕ → Type 0
FirstOf [] n = ⊥
FirstOf (r ∷ rs) n = ((r.number ≡ n) × r.holds) ⊎ ((¬ r.holds) × FirstOf rs n)

-- The table. 12 is for a line of the bench, 16 for the status page

-- 1: semaphore number below 0 or above 119
abbrev pub no_such_semaphore : ℤ → Reason
no_such_semaphore a = 1 given ((a <ℤ pos 0) ⊎ (pos semaphore_limit ≤ℤ a))

-- 2: that semaphore is free
abbrev pub semaphore_free : Tables → ℤ → Reason
semaphore_free t a = 2 given is_used t (nat_abs a) ≡ false

-- 3: count argument below 0
abbrev pub count_below0 : ℤ → Reason
count_below0 a = 3 given a <ℤ pos 0

-- 4: all 120 semaphores are used
abbrev pub all_used : Tables → Reason
all_used t = 4 given ((s : ℕ) → s < semaphore_limit → is_used t s ≡ true)

-- 5: count is 2,147,483,647
abbrev pub count_largest : Tables → ℤ → Reason
count_largest t a = 5 given count_of t (nat_abs a) ≡ pos 2147483647

-- 6: process number below 0 or above 31
abbrev pub no_such_process : ℤ → Reason
no_such_process a = 6 given ((a <ℤ pos 0) ⊎ (pos process_limit ≤ℤ a))

-- 7: that slot is free
abbrev pub slot_free : Tables → ℤ → Reason
slot_free t a = 7 given state_of t (nat_abs a) ≡ Free

-- 8: all slots 1 to 31 are live
abbrev pub all_live : Tables → Reason
all_live t = 8 given ((p : ℕ) → 1 ≤ p → p < process_limit → state_of t p ≢ Free)

-- 9: suspend of a suspended process
abbrev pub found_suspended : Tables → ℤ → Reason
found_suspended t a = 9 given state_of t (nat_abs a) ≡ Suspended

-- 10: kill or suspend of process 0; any wait by it
abbrev pub process0 : ℕ → Reason
process0 p = 10 given p ≡ 0

-- 11: priority below 1 or above 63
abbrev pub no_such_priority : ℤ → Reason
no_such_priority a = 11 given ((a <ℤ pos 1) ⊎ (pos priority_limit <ℤ a))

-- 13: call number not in 01 to 0b
abbrev pub no_such_call : ℕ → Reason
no_such_call n = 13 given ((n < 1) ⊎ (11 < n))

-- how many arguments the call with this number uses: reset, 05, both, yield, 0a, none, the others the first
abbrev pub arguments_of : ℕ → ℕ
arguments_of n = if eqb n 5 then 2 else if eqb n 10 then 0 else 1

-- 14: an argument the call doesn't use isn't 0
abbrev pub spare_argument : ℕ → ℤ → ℤ → Reason
spare_argument n a b = 14 given (((b ≢ pos 0) × (arguments_of n < 2)) ⊎ ((a ≢ pos 0) × (arguments_of n < 1)))

-- 15: the tables aren't sound
abbrev pub not_sound : Tables → Reason
not_sound t = 15 given ¬ Sound t

-- 17: resume of the current one
abbrev pub found_current : Tables → ℤ → Reason
found_current t a = 17 given state_of t (nat_abs a) ≡ Current

-- 18: resume of a ready one
abbrev pub found_ready : Tables → ℤ → Reason
found_ready t a = 18 given state_of t (nat_abs a) ≡ Ready

-- 19: resume or suspend of a waiting one
abbrev pub found_waiting : Tables → ℤ → Reason
found_waiting t a = 19 given ((s : ℕ) × (state_of t (nat_abs a) ≡ Waiting s))

-- The order

-- a call's own
abbrev pub own_reasons : Tables → Call → List Reason
own_reasons t (Wait a) = no_such_semaphore a ∷ semaphore_free t a ∷ process0 (current_of t) ∷ []
own_reasons t (Signal a) = no_such_semaphore a ∷ semaphore_free t a ∷ count_largest t a ∷ []
own_reasons t (MakeSemaphore a) = count_below0 a ∷ all_used t ∷ []
own_reasons t (Delete a) = no_such_semaphore a ∷ semaphore_free t a ∷ []
own_reasons t (Reset a b) = count_below0 b ∷ no_such_semaphore a ∷ semaphore_free t a ∷ []
own_reasons t (MakeProcess a) = no_such_priority a ∷ all_live t ∷ []
own_reasons t (Resume a) = no_such_process a ∷ slot_free t a ∷ found_current t a ∷ found_ready t a ∷ found_waiting t a ∷ []
own_reasons t (Suspend a) = no_such_process a ∷ process0 (nat_abs a) ∷ slot_free t a ∷ found_suspended t a ∷ found_waiting t a ∷ []
own_reasons t (Kill a) = no_such_process a ∷ process0 (nat_abs a) ∷ slot_free t a ∷ []
own_reasons t Yield = []
own_reasons t (Count a) = no_such_semaphore a ∷ semaphore_free t a ∷ []

-- of a number that has a call
abbrev pub call_reasons : Tables → Option Form → ℤ → ℤ → List Reason
call_reasons t none a b = []
call_reasons t (some f) a b = own_reasons t (call_of f a b)

-- of sound tables: 13, 14, then the call's own
abbrev pub numbered_reasons : Tables → ℕ → ℤ → ℤ → List Reason
numbered_reasons t n a b = no_such_call n ∷ spare_argument n a b ∷ call_reasons t (form_of n) a b

-- 15 stands before them
abbrev pub reasons : Tables → ℕ → ℤ → ℤ → List Reason
reasons t n a b = not_sound t ∷ numbered_reasons t n a b

-- What the number of a resume or a suspend says of the state in which the process was found. 0 is no refusal; 15, 13, 14, 6 and 10 stand
-- before the state is looked at; there is no other
abbrev pub says : ℕ → State → Bool
says n st =
    if eqb n 7 then is_free st
    else if eqb n 9 then is_suspended st
    else if eqb n 17 then is_current st
    else if eqb n 18 then is_ready st
    else if eqb n 19 then is_waiting st
    else eqb n 0 || eqb n 15 || eqb n 13 || eqb n 14 || eqb n 6 || eqb n 10
