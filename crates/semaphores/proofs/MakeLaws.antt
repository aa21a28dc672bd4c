-- Make a semaphore: what is taken is the first free entry from the cursor on. Assumes nothing.
use Prim.Native.Nat.{◌<◌, ℕ}
use mathlib.Core.Bool.{false, true}
use mathlib.Core.List.{List}
use mathlib.Core.Path.{◌∙◌, ◌≡◌, refl, sym}
use lib.IntN.{pos, ℤ}
use Rattle.layout.specs.Offsets.{counts_at, used_at}
use Rattle.layout.specs.Stands.{Tells, Turns}
use Rattle.lists.specs.Lists.{first_or, is_empty}
use Rattle.lists.specs.Numbers.{round_from}
use Rattle.order.specs.Search.{first_free}
use Rattle.std.specs.List.{slice_range}
use Rattle.std.specs.Prelude.{Err, None, Ok, Option, Some}
use lib.ListN.{length}
use Rattle.rules.specs.declared.Call.TheVariants.{MakeSemaphore}
use Rattle.rules.specs.declared.Refusal.TheVariants.{AllUsed, CountBelow0}
use Rattle.rules.specs.Calls.{below0, one_past, step}
use Rattle.scheduling.specs.Steps.{Leads}
use Rattle.scheduling.specs.declared.step.Step.TheVariants.{Done}
use Rattle.tables.specs.Limits.{semaphore_limit}
use Rattle.tables.specs.Readers.{line}
use Rattle.tables.specs.Setters.{with_next_semaphore, with_semaphore}
use Rattle.tables.specs.declared.Tables.{Tables}
use Rattle.order.proofs.Found.{first-none, first_some}
use Rattle.order.proofs.SearchLaws.{first-semaphore}
use Rattle.scheduling.proofs.RunningLaws.{still}
use Rattle.scheduling.proofs.StepLaws.{refuses}

pub make-3 : (z : ℤ) (bs : List ℕ) → below0 z ≡ true → Leads (λ t. step t (MakeSemaphore z)) bs bs (Err CountBelow0)
unfolding step
make-3 z bs h = refuses (λ t. step t (MakeSemaphore z)) CountBelow0 bs (λ t st S. rw h refl)

-- what the search from the cursor on answers
abbrev Searched : List ℕ → ℕ → Option ℕ → Type 0
Searched a k r = let es : List ℕ = slice_range a used_at counts_at in k < length es → r ≡ first_free es (round_from (length es) k)

module _ (z : ℤ) (h : below0 z ≡ false) (a : List ℕ) (k : ℕ) (r : Option ℕ) (cursor : Tells (λ t. t.next_semaphore) a k) (is : Searched a k r) where
  pub make-4 : r ≡ None → Leads (λ t. step t (MakeSemaphore z)) a a (Err AllUsed)
  unfolding step is_empty
  make-4 e = refuses (λ t. step t (MakeSemaphore z)) AllUsed a (λ t st S. rw (h, first-none _ (sym (first-semaphore a k r t st S cursor is) ∙ e)) refl)

  module _ (s : ℕ) (e : r ≡ Some s) (b d : List ℕ) (put : Turns (λ t. with_semaphore t s (record { used = true; count = z })) a b) (move : Turns (λ t. with_next_semaphore t (one_past semaphore_limit s)) b d) where
    pub make-semaphore-done : (v : ℤ) → v ≡ pos s → Leads (λ t. step t (MakeSemaphore z)) a d (Ok (Done v))
    unfolding Leads step is_empty first_or Turns line
    make-semaphore-done v n t st S =
        let w = first_some _ s (sym (first-semaphore a k r t st S cursor is) ∙ e) in
        let u : Tables = with_next_semaphore (with_semaphore t s (record { used = true; count = z })) (one_past semaphore_limit s) in
        (u, rw (h, w.1, n) refl, move (with_semaphore t s (record { used = true; count = z })) (put t st), still S u refl)
