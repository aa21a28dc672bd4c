-- Each turn counts one process more of either half, at the cell that its state byte names. Assumes nothing.
use Prim.Native.Nat.{◌+◌}
use native.Mathlib.Nat.{zero-add}
use native.Mathlib.Omega.{arith}
use Rattle.layout.specs.Bytes.{from_bytes}
use Rattle.layout.proofs.Image.{formed-state}
use Rattle.queues.specs.Tallies.{half_limit}
use Rattle.queues.proofs.Tally.{tallied-next, waits-cell}
use borrow.Author.Rules.{rules}
use Rattle.queues.proofs.waiters.tally.Goals as goal

pub cell-s-requires : goal.cell-s-requires
cell-s-requires c =
    let f = c.args.f in
    (search rules, formed-state f.bytes.now f.formed c.loop-i.i (omega arith))

pub cell-r-requires : goal.cell-r-requires
cell-r-requires c =
    let f = c.args.f in
    (search rules, formed-state f.bytes.now f.formed (half_limit + c.loop-i.i) (omega arith))

pub loop-i-preserved : goal.loop-i-preserved
loop-i-preserved c =
    let bs = c.args.f.bytes.now in
    let loop = c.loop-i in
    let i = loop.i in
    let s = c.cell-s in
    let r = c.cell-r in
    let one = waits-cell bs i i s.result (omega arith) s.ensures.1 in
    let other = waits-cell bs (half_limit + i) i r.result (omega arith) r.ensures.1 in (
      search rules,
      tallied-next (from_bytes bs) 0 i loop.many loop.invariant.1 s.result s.ensures.0 (rw (zero-add i) one),
      tallied-next (from_bytes bs) half_limit i loop.more loop.invariant.2 r.result r.ensures.0 other,
      search rules,
    )
