use Prim.Native.Nat.{ℕ}
use mathlib.Core.List.{List}
use lib.ListN.{length}
use Rattle.std.specs.Array.{IsWholeChunk}
use mathlib.Core.Path.{◌∙◌, ◌≡◌, ap, refl, sym}
use borrow.Author.Tests.{ne_eqb}
use Rattle.layout.specs.Bytes.{well_formed}
use Rattle.layout.specs.Offsets.{size}
use Rattle.soundness.proofs.FormBytes.{form-said}
use Rattle.soundness.proofs.form.formed.Goals as goal
use Rattle.soundness.proofs.form.formed.Goals.{else-both_named-via-then-both_named+else-flags_plain, else-both_named-via-else-both_named}

-- the array is as long as the bytes are
long : {bs xs : List ℕ} → IsWholeChunk bs xs size → length xs ≡ size
long w = ap length w.same ∙ w.long

pub returns-in_err-bytes : goal.returns-in_err-bytes
unfolding well_formed
returns-in_err-bytes c = rw c.from_residual.ensures (rw (ne_eqb _ size c.in_err-bytes.ensures.cases))

pub invariant_of-result : goal.invariant_of-result
invariant_of-result c = record { formed = sym (form-said _ (long c.in_ok-bytes.ensures.cases) _ _ c.if-both_named.ensures c.if-flags_plain.ensures) }

pub returns-else-both_named : goal.returns-else-both_named
returns-else-both_named c =
    let whole = c.in_ok-bytes.ensures.cases in
    ap well_formed (sym whole.same) ∙ sym (elim c.else-both_named.branch [
      | else-both_named-via-then-both_named+else-flags_plain w ↦ form-said _ (long whole) _ _ w.if-both_named.ensures w.if-flags_plain.ensures
      | else-both_named-via-else-both_named w ↦ form-said _ (long whole) _ _ w.if-both_named.ensures refl
    ])
