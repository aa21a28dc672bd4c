-- Bytes that aren't good are answered 15 as they came; good ones are called by the rules. Assumes nothing.
use Rattle.std.proofs.Common.{rules, ◌≡◌, ◌∙◌, sym, inl, inr}
use Rattle.std.specs.Prelude.{None}
use Rattle.cottonsedge.proofs.Entry.{called-good, not-good, refused-bad}
use Rattle.cottonsedge.proofs.call.cottonsedge_call.Goals as goal
use Rattle.cottonsedge.proofs.call.cottonsedge_call.Goals.{in_default-via-in-Some+in-None-1, in_default-via-in-None-1}

pub returns-in-Some-as_mut_array : goal.returns-in-Some-as_mut_array
returns-in-Some-as_mut_array c =
    let told = c.call-told in
    let whole = c.in-Some-as_mut_array.ensures.cases in
    called-good _ _ _ _ _ _ _ _ _ told.result c.ranges.a c.ranges.b c.in-Some.ensures whole.same (λ i. search rules) told.ensures c.into.ensures c.pack.ensures

pub returns-in_default : goal.returns-in_default
returns-in_default c =
    let bs = c.args.tables.now in
    let bad = not-good bs (elim c.in_default.branch [
      | in_default-via-in-None-1 w ↦ let none : c.runner.result ≡ None = search rules in inl (sym none ∙ c.runner.ensures)
      | in_default-via-in-Some+in-None-1 w ↦ let none : w.as_mut_array.result ≡ None = search rules in let other = w.as_mut_array.ensures.cases in inr (rw none at other)
    ])
    in
    let same : c.in_default.tables ≡ bs = elim c.in_default.branch [
      | in_default-via-in-None-1 w ↦ w.tables-is
      | in_default-via-in-Some+in-None-1 w ↦ w.tables-is
    ]
    in
    refused-bad bs _ _ _ _ _ bad (λ i. search rules) same c.not_sound.ensures
