-- What is left of the test from place i on, with the key before it, is the whole test. Assumes nothing.
use Prim.Native.Nat.{◌+◌, ◌-◌, ◌<◌, ℕ}
use mathlib.Core.Path.{◌∙◌, ◌≡◌, ap, sym}
use lib.ListN.{get_or}
use Rattle.layout.specs.Offsets.{order_at}
use Rattle.tables.specs.Limits.{process_limit}
use Rattle.soundness.specs.Keys.{key_of}
use Rattle.soundness.proofs.Standing.{standing, standing-below, standing-byte}
use Rattle.soundness.proofs.FallingBytes.{key-on, key-some, key-stop, left, left-all, left-none}
use borrow.Author.Rules.{rules}
use Rattle.soundness.proofs.ready.ready_falls.Goals as goal
use Rattle.soundness.proofs.ready.ready_falls.Goals.{In-loop-place}

pub bounds-k-place : goal.bounds-k-place
bounds-k-place c = standing-below c.args.bytes.now c.loop-place.place-index c.requires.0 (search rules)

-- the place that the loop is at
module _ (c : In-loop-place) where
  inside : c.loop-place.place-index < process_limit
  inside = search rules

  abbrev place : ℕ
  place = standing c.args.bytes.now c.loop-place.place-index

  here : get_or c.args.bytes.now (order_at + c.loop-place.place-index) 0 ≡ place
  here = standing-byte c.args.bytes.now c.loop-place.place-index inside

  key : get_or c.args.k.now place 0 ≡ key_of c.args.bytes.now place
  key = c.requires.1 place (standing-below c.args.bytes.now c.loop-place.place-index c.requires.0 inside)

pub returns-then-last-v : goal.returns-then-last-v
returns-then-last-v c =
    let l = (goal.at.returns-then-last-v c).In-loop-place in
    let bs = c.args.bytes.now in
    let loop = c.loop-place in
    let stop = key-stop bs c.requires.0 loop.place-index (place l) (search rules) (here l) loop.last _ (key l) loop.invariant.0 c.if-last-v.true in
    sym (sym (left-all bs (c.args.top - 1)) ∙ loop.invariant.1 ∙ stop)

pub loop-place-preserved : goal.loop-place-preserved
loop-place-preserved c =
    let l = (goal.at.loop-place-preserved c).In-loop-place in
    let bs = c.args.bytes.now in
    let loop = c.loop-place in
    let named = c.requires.0 in
    let e = c.latest-last.ensures in (
      rw e (key-some bs named loop.place-index (place l) (search rules) (here l) loop.last _ (key l) loop.invariant.0),
      loop.invariant.1 ∙ key-on bs named loop.place-index (place l) (search rules) (here l) loop.last _ (key l) loop.invariant.0 c.if-last-v.false
          ∙ ap (λ (n : ℕ). left bs (n - 1) (loop.place-index + 1)) (sym e),
    )

pub returns : goal.returns
returns c =
    let bs = c.args.bytes.now in
    sym (sym (left-all bs (c.args.top - 1)) ∙ c.loop-place.invariant.1 ∙ left-none bs (c.loop-place.last - 1) c.loop-place.place-index (search rules))
