-- The answer of a call as one number of three fields: the refusal in 8 bits, the value in 32, the process in 8.
use Rattle.std.specs.Prelude.{if◌then◌else◌, ℕ, ◌+◌, ◌*◌, ◌/◌, ◌%◌, ◌^◌, eqb}
use Rattle.std.specs.Int.{w32}
use Rattle.std.proofs.Common.{of_z, to_z}
use Rattle.rules.specs.declared.Answer.{Answer}
use Rattle.rules.specs.declared.Answer.TheVariants.{Done, Refused}
use Rattle.rules.specs.Answers.{number_of, value_of}

-- a value counts in steps of this, above the process
abbrev pub value_step : ℕ
value_step = 2 ^ 8

-- every value's bits are below this
abbrev pub value_end : ℕ
value_end = 2 ^ 32

-- a refusal counts in steps of this, above the value
abbrev pub refusal_step : ℕ
refusal_step = 2 ^ 40

-- every answer is below this
abbrev pub answer_end : ℕ
answer_end = 2 ^ 48

-- The three fields put together, and each read back

abbrev pub joined : ℕ → ℕ → ℕ → ℕ
joined refusal value process = refusal * refusal_step + value * value_step + process

abbrev pub refusal_field : ℕ → ℕ
refusal_field r = r / refusal_step

abbrev pub value_field : ℕ → ℕ
value_field r = r / value_step % value_end

abbrev pub process_field : ℕ → ℕ
process_field r = r % value_step

-- an answer, with the process that runs then
abbrev pub packed : Answer → ℕ → ℕ
packed a p = joined (number_of a) (of_z w32 (value_of a)) p

-- an answer read back: a refusal number that isn't 0, or the value
abbrev pub unpacked : ℕ → Answer
unpacked r = if eqb (refusal_field r) 0 then Done (to_z w32 (value_field r)) else Refused (refusal_field r)
