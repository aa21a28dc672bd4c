-- Each test in order: a failed one fails the test of soundness, and with all passed the sole current process runs. Assumes nothing.
use mathlib.Core.Path.{◌∙◌, ◌≡◌, sym}
use Rattle.std.specs.Prelude.{Some}
use Rattle.layout.specs.Bytes.{from_bytes}
use Rattle.tables.specs.Test.{semaphores_fit}
use Rattle.layout.proofs.Image.{formed-place}
use Rattle.queues.proofs.Tally.{none-tallied}
use Rattle.soundness.specs.Running.{sole_of}
use Rattle.soundness.proofs.Parts.{nobody-runs, not-falling, not-fitting, priority-small, queues-said, runs}
use borrow.Author.Rules.{rules}
use Rattle.soundness.proofs.check.runs.Goals as goal
use Rattle.soundness.proofs.check.runs.Goals.{In_ok-c, After-counts_fit}

-- the sole current process, once it is found
found : (c : In_ok-c) → Some c.in_ok-c.c ≡ sole_of (from_bytes c.args.f.bytes.now)
found c = c.in_ok-c.ensures

-- the counts, once they are compared
fit : (c : After-counts_fit) → semaphores_fit (from_bytes c.args.f.bytes.now) ≡ c.counts_fit.result
fit c = sym (c.counts_fit.ensures ∙ queues-said c.args.f.bytes.now c.args.f.formed c.requires c.tally.ensures.0 c.tally.ensures.1)

pub tally-requires : goal.tally-requires
tally-requires c = (none-tallied _ _, none-tallied _ _)

pub returns-in_err-c : goal.returns-in_err-c
returns-in_err-c c = c.from_residual.ensures ∙ nobody-runs c.args.f.bytes.now c.args.f.formed c.requires c.in_err-c.ensures

pub keys-k-requires : goal.keys-k-requires
keys-k-requires c = priority-small c.args.f.bytes.now c.args.f.formed c.requires

pub ready_falls-requires : goal.ready_falls-requires
ready_falls-requires c = (formed-place c.args.f.bytes.now c.args.f.formed, c.keys-k.ensures, search rules)

pub returns-then-not-ready_falls : goal.returns-then-not-ready_falls
returns-then-not-ready_falls c =
    let f = c.args.f in
    not-falling f.bytes.now f.formed c.requires _ (found (goal.at.returns-then-not-ready_falls c).In_ok-c) _ c.ready_falls.ensures c.if-not-ready_falls.true

pub returns-then-not-counts_fit : goal.returns-then-not-counts_fit
returns-then-not-counts_fit c =
    let f = c.args.f in
    not-fitting f.bytes.now f.formed c.requires _ (found (goal.at.returns-then-not-counts_fit c).In_ok-c) _ c.ready_falls.ensures c.if-not-ready_falls.false (fit (goal.at.returns-then-not-counts_fit c).After-counts_fit ∙ c.if-not-counts_fit.true)

pub returns : goal.returns
returns c =
    let f = c.args.f in
    runs f.bytes.now f.formed c.requires _ (found (goal.at.returns c).In_ok-c) _ c.ready_falls.ensures c.if-not-ready_falls.false (fit (goal.at.returns c).After-counts_fit ∙ c.if-not-counts_fit.false)
