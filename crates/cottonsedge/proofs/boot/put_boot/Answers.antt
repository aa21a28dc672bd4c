-- Each turn writes one place more of the row; the bytes are then those of the boot tables. Assumes nothing.
use Rattle.std.proofs.Common.{ℕ, ◌∙◌, ap, refl, replicate, length-set, arith}
use Rattle.tables.specs.Limits.{process_limit}
use Rattle.lists.proofs.NumberLaws.{listed-done, listed_next}
use Rattle.cottonsedge.proofs.BootBytes.{boot-laid}
use Rattle.cottonsedge.proofs.boot.put_boot.Goals as goal

pub loop-i-preserved : goal.loop-i-preserved
loop-i-preserved c =
    let loop = c.loop-i in
    let inv = loop.invariant in
    (length-set _ _ _ ∙ inv.0, listed_next (λ (i : ℕ). i) process_limit loop.place-items inv.0 loop.i 0 loop.i inv.1 (omega arith) refl)

pub returns : goal.returns
returns c =
    let inv = c.loop-i.invariant in
    let row = listed-done (λ (i : ℕ). i) process_limit c.loop-i.place-items inv.0 c.loop-i.i (omega arith) inv.1 in
    boot-laid _ _ (c.fill.ensures.after (λ y e. e) ∙ ap (λ (n : ℕ). replicate n 0) c.told-bytes) row
