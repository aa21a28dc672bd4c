-- What a request is to a semaphore: nothing, or what an accepted call is. Assumes nothing.
use Prim.Native.Nat.{ℕ}
use mathlib.Core.List.{[], ◌∷◌}
use mathlib.Core.Option.{Option, none, some}
use Rattle.tables.specs.declared.Tables.{Tables}
use Rattle.tables.specs.Readers.{current_of}
use Rattle.rules.specs.Answers.{◌when◌, refused}
use Rattle.rules.specs.declared.Call.{Call}
use Rattle.rules.specs.Calls.{Accepted, deed, finish, step}
use Rattle.rules.specs.Enter.{Form, form_of, call_of, spare, called, numbered}
use Rattle.rules.proofs.Refusals.{unless-cases, step-cases}
use Rattle.promises.specs.Record.{Event, Nothing, Request, accepted, answered, entered, entry_of, event, made}

-- what is so of the tables and of nothing, and of what every accepted call leaves and is, is so of the request
pub event-cases : (t : Tables) (q : Request) (s : ℕ) (P : Tables → Event → Type 0)
    → P t Nothing → ((c : Call) → Accepted t c → P (finish (deed t c)).tables (accepted s c (deed t c).value))
    → P (made t q).tables (event s (entry_of t q))
unfolding numbered
event-cases t q s P nothing call = go (form_of q.number)
  where
    go : (f : Option Form) → P (called t f q.a q.b).tables (entered s f (record { caller = current_of t; request = q; answer = (called t f q.a q.b).answer }))
    go none = nothing
    go (some f) =
        let c : Call = call_of f q.a q.b in
        unless-cases (λ m. refused m t) (λ o. P o.tables (answered s c o.answer)) (λ m. nothing) ((14 when spare f q.a q.b) ∷ []) (step t c)
        (λ k. step-cases t (λ o. P o.tables (answered s c o.answer)) (λ n. nothing) c (call c))
