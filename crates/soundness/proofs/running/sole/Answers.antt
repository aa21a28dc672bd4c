use native.Mathlib.Omega.{arith}
use Rattle.soundness.proofs.Parts.{many-sole, none-sole, one-sole}
use Rattle.soundness.proofs.running.sole.Goals as goal
use Rattle.soundness.proofs.running.sole.Goals.{else-w-ge-ONE-via-then-w-ge-ONE+else-w, else-w-ge-ONE-via-else-w-ge-ONE}

pub returns-then-w : goal.returns-then-w
returns-then-w c =
    let f = c.args.f in
    one-sole f.bytes.now f.formed c.requires _ c.weight-w.ensures (omega arith) (omega arith)

pub returns-else-w-ge-ONE : goal.returns-else-w-ge-ONE
returns-else-w-ge-ONE c =
    let f = c.args.f in
    elim c.else-w-ge-ONE.branch [
      | else-w-ge-ONE-via-then-w-ge-ONE+else-w w ↦ many-sole f.bytes.now f.formed c.requires _ c.weight-w.ensures w.if-w.false
      | else-w-ge-ONE-via-else-w-ge-ONE w ↦ none-sole f.bytes.now f.formed c.requires _ c.weight-w.ensures w.if-w-ge-ONE.false
    ]
