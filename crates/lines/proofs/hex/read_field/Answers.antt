-- What is left reads on, behind the number so far, as the whole does. Assumes nothing.
use Rattle.std.proofs.Common.{length, sym, ◌∙◌, arith, Some, None}
use borrow.Author.Tests.{le-leb, lt-leb}
use Rattle.lines.specs.Hex.{field_of}
use Rattle.lines.proofs.HexLaws.{digit-more, read-next, read-end}
use Rattle.lines.proofs.hex.read_field.Goals as goal

pub returns-then-part-gt-WIDTH : goal.returns-then-part-gt-WIDTH
unfolding field_of
returns-then-part-gt-WIDTH c = rw (lt-leb _ _ c.if-part-gt-WIDTH.true)

pub returns-in_err-n : goal.returns-in_err-n
unfolding field_of
returns-in_err-n c =
    let part = c.args.part.now in
    let l = c.loop-c in
    rw (c.from_residual.ensures, le-leb (length part) 8 c.if-part-gt-WIDTH.false) (read-next l.n part l.c-index None (omega arith) c.in_err-n.ensures.value ∙ l.invariant.same)

pub loop-c-preserved : goal.loop-c-preserved
loop-c-preserved c =
    let l = c.loop-c in
    let digit = c.in_ok-n.ensures.value in
    record { small = digit-more l.n _ l.c-index l.invariant.small (omega (arith, digit)); same = read-next l.n c.args.part.now l.c-index (Some c.in_ok-n.field-0) (omega arith) digit ∙ l.invariant.same }

pub returns : goal.returns
unfolding field_of
returns c =
    let part = c.args.part.now in
    let l = c.loop-c in
    rw (le-leb (length part) 8 c.if-part-gt-WIDTH.false) (sym (read-end l.n part l.c-index (omega arith)) ∙ l.invariant.same)
