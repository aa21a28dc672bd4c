use Prim.Native.Nat.{◌+◌, ◌-◌, ℕ}
use mathlib.Core.Bool.{Bool, ◌&&◌, false, true}
use native.Mathlib.Omega.{arith}
use mathlib.Core.Path.{◌∙◌, ◌≡◌, refl}
use Rattle.layout.specs.Bytes.{from_bytes}
use Rattle.lists.specs.Numbers.{all}
use Rattle.tables.specs.Limits.{semaphore_limit}
use Rattle.queues.specs.Squeeze.{block_limit}
use Rattle.queues.specs.Tallies.{counted_fits}
use Rattle.queues.proofs.Squeezing.{all-overlap}
use Rattle.queues.proofs.counts.counts_fit.Goals as goal

-- all of the semaphores, as those of both blocks
module _ (f : ℕ → Bool) (b : Bool) (first : b ≡ all block_limit (λ i. f (0 + i))) where
  blocks : (b && all block_limit (λ i. f (semaphore_limit - block_limit + i))) ≡ all semaphore_limit f
  blocks = rw first (all-overlap f block_limit (semaphore_limit - block_limit) semaphore_limit (omega arith) refl)

  wrong : b ≡ false → false ≡ all semaphore_limit f
  wrong e = rw e at blocks

  left : b ≡ true → (d : Bool) → d ≡ all block_limit (λ i. f (semaphore_limit - block_limit + i)) → d ≡ all semaphore_limit f
  left e d second = second ∙ (rw e at blocks)

pub returns-then-not-block_fits : goal.returns-then-not-block_fits
returns-then-not-block_fits c =
    let args = c.args in
    let f = counted_fits (from_bytes args.bytes.now) args.tallies.many.now args.tallies.more.now in
    wrong f _ c.block_fits.ensures c.if-not-block_fits.true

pub returns : goal.returns
returns c =
    let args = c.args in
    let f = counted_fits (from_bytes args.bytes.now) args.tallies.many.now args.tallies.more.now in
    left f _ c.block_fits.ensures c.if-not-block_fits.false _ c.block_fits-2.ensures
