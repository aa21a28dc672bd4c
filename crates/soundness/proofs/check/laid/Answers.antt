-- Each test in order: a failed one fails a clause, and with all passed the row is left. Assumes nothing.
use Rattle.layout.proofs.Image.{formed-place}
use Rattle.soundness.proofs.LaidBytes.{far-process, far-semaphore, null-wrong, row-left}
use Rattle.soundness.proofs.check.laid.Goals as goal

pub returns-then-bytes : goal.returns-then-bytes
returns-then-bytes c = far-semaphore c.args.f.bytes.now c.if-bytes.true

pub returns-then-bytes-2 : goal.returns-then-bytes-2
returns-then-bytes-2 c = far-process c.args.f.bytes.now c.if-bytes.false c.if-bytes-2.true

pub returns-then-not-null_fits : goal.returns-then-not-null_fits
returns-then-not-null_fits c =
    null-wrong c.args.f.bytes.now c.if-bytes.false c.if-bytes-2.false _ c.null_fits.ensures c.if-not-null_fits.true

pub once_each-requires : goal.once_each-requires
once_each-requires c = formed-place c.args.f.bytes.now c.args.f.formed

pub returns : goal.returns
returns c =
    row-left c.args.f.bytes.now c.if-bytes.false c.if-bytes-2.false _ c.null_fits.ensures c.if-not-null_fits.false _ c.slots_fit.ensures c.if-not-slots_fit.false _ c.once_each.ensures
