-- The three parts of the line are the three fields of the rule. Assumes nothing.
use Rattle.std.proofs.Common.{take, arith}
use Rattle.std.proofs.Math.ListN.{length-take}
use borrow.Author.Tests.{ne_eqb}
use mir.Syntax.{w32}
use mir.ValLaws.{to_z-of_z}
use Rattle.lines.specs.Line.{line_of}
use Rattle.lines.proofs.HexLaws.{field-below}
use Rattle.lines.proofs.LineLaws.{line-read}
use Rattle.lines.proofs.line.read_line.Goals as goal

pub returns-in_err-digits : goal.returns-in_err-digits
unfolding line_of
returns-in_err-digits c = rw (c.from_residual.ensures, ne_eqb _ _ c.in_err-digits.ensures.cases)

pub returns-in_err-number : goal.returns-in_err-number
returns-in_err-number c = rw (c.from_residual-in_err-number.ensures, line-read _ _ c.in_ok-digits.ensures.cases, ← c.in_err-number.ensures)

pub returns-in_err-a : goal.returns-in_err-a
returns-in_err-a c = rw (c.from_residual-in_err-a.ensures, line-read _ _ c.in_ok-digits.ensures.cases, ← c.in_ok-number.ensures, ← c.in_err-a.ensures)

pub returns-in_err-b : goal.returns-in_err-b
returns-in_err-b c = rw (c.from_residual-in_err-b.ensures, line-read _ _ c.in_ok-digits.ensures.cases, ← c.in_ok-number.ensures, ← c.in_ok-a.ensures, ← c.in_err-b.ensures)

pub overflow_cast-result : goal.overflow_cast-result
overflow_cast-result c =
    record { fits = rw (← c.in_ok-number.ensures) at (field-below 2 (take 2 c.in_ok-digits.digits.now) (λ _. simp length-take (omega arith))) }

pub returns : goal.returns
returns c =
    let a = c.cast_signed in
    let b = c.cast_signed-2 in
    rw (line-read _ _ c.in_ok-digits.ensures.cases, ← c.in_ok-number.ensures, ← c.in_ok-a.ensures, ← c.in_ok-b.ensures)
    (rw (to_z-of_z w32 a.result (record { sfits = a.type_inv }), to_z-of_z w32 b.result (record { sfits = b.type_inv }), a.ensures, b.ensures))
