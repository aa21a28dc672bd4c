use Prim.Native.Nat.{◌+◌, ◌<◌, ℕ}
use native.Mathlib.Nat.{zero-add}
use native.Mathlib.Omega.{arith}
use mathlib.Core.Bool.{Bool}
use mathlib.Core.Path.{◌∙◌, ◌≡◌, ap, refl}
use lib.Dec.{eqb}
use lib.ListN.{get_or}
use Rattle.std.proofs.Common.{rules, tests}
use Rattle.std.proofs.lemmas.Iterator.{YieldsList-from_range}
use Rattle.std.proofs.lemmas.List.FromFn.{get_or-range_with_len}
use Rattle.layout.specs.Bytes.{count_at, from_bytes}
use Rattle.layout.specs.Offsets.{used_at}
use Rattle.layout.proofs.Image.{semaphore-said}
use Rattle.lists.proofs.Folds.{folded-all}
use Rattle.queues.specs.Squeeze.{block_limit, squeezed_fits}
use Rattle.queues.specs.Tallies.{counted_fits}
use Rattle.queues.proofs.Squeezing.{squeezed-fits}
use Rattle.queues.proofs.counts.block_fits.Goals as goal
use Rattle.queues.proofs.counts.block_fits.Goals.{After-fold}

-- the test of semaphore i of the block, as it is done
abbrev test : After-fold → ℕ → Bool
test c i =
    let args = c.args in
    let s = args.from + i in
    squeezed_fits (eqb (get_or args.bytes.now (used_at + s) 0) 1) (get_or args.x.now i 0) (get_or args.tallies.many.now s 0 + get_or args.tallies.more.now s 0)

-- says of its count what is to be said, since few wait
is : (c : After-fold) (i : ℕ) → i < block_limit → test c i ≡ counted_fits (from_bytes c.args.bytes.now) c.args.tallies.many.now c.args.tallies.more.now (c.args.from + i)
is c i h =
    let args = c.args in
    let bs = args.bytes.now in
    let s = args.from + i in
    let many = args.tallies.few s in
    let more = args.tallies.less s in
    rw (c.requires.1.said i h, semaphore-said bs s (omega arith)) (squeezed-fits (eqb (get_or bs (used_at + s) 0) 1) (count_at bs s) _ (omega arith))

pub returns : goal.returns
returns c =
    folded-all c.fold.ensures.ran (YieldsList-from_range _ _ _ refl refl) (test c) (λ a x b q k. search (rules, tests)) block_limit refl 0
    (λ i. counted_fits (from_bytes c.args.bytes.now) c.args.tallies.many.now c.args.tallies.more.now (c.args.from + i)) (λ i h. ap (test c) (get_or-range_with_len 0 block_limit i 0 h ∙ zero-add i) ∙ is c i h)
