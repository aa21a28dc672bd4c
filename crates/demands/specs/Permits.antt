-- A request that leaves a count to go on, said by the number of its call.
use Rattle.std.specs.Prelude.{ℕ, ◌≡◌}
use Rattle.std.proofs.Math.Option.{some}
use Rattle.rules.specs.Enter.{Form, form_of, call_of}
use Rattle.telling.specs.Telling.{CountGoesOn}
use Rattle.promises.specs.Record.{Request}

-- what is asked neither deletes nor resets semaphore s
abbrev pub GoesOn : Request → ℕ → Type 0
GoesOn q s = (f : Form) → form_of q.number ≡ some f → CountGoesOn (call_of f q.a q.b) s
