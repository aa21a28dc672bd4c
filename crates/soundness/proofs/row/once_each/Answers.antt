-- A bit for each number that stands in the row so far: all bits, and each of the 32 stands there once. Assumes nothing.
use Prim.Native.Nat.{◌+◌, ◌-◌, ◌<◌, ◌^◌, ℕ}
use mathlib.Core.Bool.{Bool, ◌||◌, false}
use mathlib.Core.List.{List}
use mathlib.Core.Path.{◌∙◌, ◌≡◌, ap, sym}
use lib.Bits.{bit_or}
use lib.Dec.{eqb, ltb}
use lib.ListN.{get_or, length, take}
use lib.Seq.{take_all}
use Rattle.layout.specs.Bytes.{from_bytes}
use Rattle.lists.specs.Lists.{times}
use Rattle.tables.specs.Limits.{process_limit}
use Rattle.layout.proofs.Image.{order-long, place-said}
use Rattle.lists.proofs.Bits.{mask, mask-ext, mask_full, mask-none, mask-or, shifted}
use Rattle.lists.proofs.Walks.{among_next, among_none}
use Rattle.tables.proofs.Lines.{all_among}
use Rattle.soundness.proofs.Standing.{standing, standing-below, standing-byte}
use borrow.Author.Rules.{rules}
use Rattle.soundness.proofs.row.once_each.Goals as goal

pub loop-place-init : goal.loop-place-init
loop-place-init c = sym (mask-ext process_limit _ (λ p. false) (λ p h. among_none p) ∙ mask-none process_limit)

pub overflow_shl-seen : goal.overflow_shl-seen
overflow_shl-seen c = standing-below c.args.bytes.now c.loop-place.place-index c.requires (search rules)

pub loop-place-preserved : goal.loop-place-preserved
loop-place-preserved c =
    let bs = c.args.bytes.now in
    let loop = c.loop-place in
    let i = loop.place-index in
    let o = (from_bytes bs).order in
    let f : ℕ → ℕ → Bool = λ n q. ltb 0 (times q (take n o)) in
    let inside : i < process_limit = search rules in
    let p : ℕ = standing bs i in
    let small : p < process_limit = standing-below bs i c.requires inside in
    let there : p ≡ get_or o i 0 = sym (place-said bs i inside ∙ standing-byte bs i inside) in
    let long : i < length o = rw (order-long bs) inside in
    ap (bit_or loop.seen) (shifted p small)
    ∙ ap (λ (k : ℕ). bit_or k (2 ^ p)) loop.invariant
    ∙ mask-or process_limit (f i) p small
    ∙ mask-ext process_limit (λ q. f i q || eqb q p) (f (i + 1)) (λ q h. ap (λ (k : ℕ). f i q || eqb q k) there ∙ among_next o i q long)

pub returns : goal.returns
returns c =
    let bs = c.args.bytes.now in
    let o = (from_bytes bs).order in
    let loop = c.loop-place in
    let whole = take_all loop.place-index o (rw (order-long bs) (search rules)) in
    ap (λ (m : ℕ). eqb m (2 ^ process_limit - 1)) (loop.invariant ∙ ap (λ (l : List ℕ). mask process_limit (λ p. ltb 0 (times p l))) whole)
    ∙ mask_full process_limit (λ p. ltb 0 (times p o))
    ∙ all_among o (order-long bs) (λ i h. rw (place-said bs i h) (c.requires i h))
