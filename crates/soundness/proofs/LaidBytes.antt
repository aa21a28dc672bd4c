-- The tests of how the tables are laid, in the order in which they are made. Assumes nothing.
use Prim.Native.Nat.{◌<◌, ◌≤◌, ℕ}
use native.Mathlib.Omega.{arith}
use mathlib.Core.Bool.{Bool, ◌||◌, false, true}
use mathlib.Core.List.{List}
use mathlib.Core.Path.{◌∙◌, ◌≡◌, ap, refl, sym}
use lib.Dec.{eqb, ltb}
use lib.ListN.{get_or}
use borrow.Author.Tests.{le-ltb, lt-ltb}
use Rattle.layout.specs.Bytes.{from_bytes, process_at}
use Rattle.layout.specs.Offsets.{next_process_at, next_semaphore_at}
use Rattle.lists.specs.Numbers.{all}
use Rattle.tables.specs.Limits.{process_limit, semaphore_limit}
use Rattle.tables.specs.Readers.{process}
use Rattle.tables.specs.Test.{null_fits, once_each, slot_fits}
use Rattle.tables.specs.declared.Tables.{Tables}
use Rattle.layout.proofs.Image.{process-said}
use Rattle.soundness.specs.Laid.{laid_clauses}

module _ (bs : List ℕ) where
  abbrev t : Tables
  t = from_bytes bs

  next-semaphore-said : t.next_semaphore ≡ get_or bs next_semaphore_at 0
  unfolding from_bytes
  next-semaphore-said = refl

  next-process-said : t.next_process ≡ get_or bs next_process_at 0
  unfolding from_bytes
  next-process-said = refl

  pub far-semaphore : semaphore_limit ≤ get_or bs next_semaphore_at 0 → false ≡ laid_clauses t
  far-semaphore h = sym (rw (next-semaphore-said, le-ltb (get_or bs next_semaphore_at 0) semaphore_limit h))

  module _ (h1 : get_or bs next_semaphore_at 0 < semaphore_limit) where
    first : ltb t.next_semaphore semaphore_limit ≡ true
    first = rw next-semaphore-said (lt-ltb (get_or bs next_semaphore_at 0) semaphore_limit h1)

    pub far-process : process_limit ≤ get_or bs next_process_at 0 → false ≡ laid_clauses t
    far-process h = sym (rw (first, next-process-said, le-ltb (get_or bs next_process_at 0) process_limit h))

    module _ (h2 : get_or bs next_process_at 0 < process_limit) (b : Bool) (null : b ≡ null_fits (process_at bs 0)) where
      second : ltb t.next_process process_limit ≡ true
      second = rw next-process-said (lt-ltb (get_or bs next_process_at 0) process_limit h2)

      third : null_fits (process t 0) ≡ b
      third = ap null_fits (process-said bs 0 (omega arith)) ∙ sym null

      pub null-wrong : b ≡ false → false ≡ laid_clauses t
      null-wrong h = sym (rw (first, second, third ∙ h))

      module _ (h3 : b ≡ true) (d : Bool) (slots : d ≡ all process_limit (λ p. eqb p 0 || slot_fits (process t p))) where
        pub row-left : d ≡ true → (e : Bool) → e ≡ once_each t.order → e ≡ laid_clauses t
        row-left h e row = row ∙ sym (rw (first, second, third ∙ h3, sym slots ∙ h))
