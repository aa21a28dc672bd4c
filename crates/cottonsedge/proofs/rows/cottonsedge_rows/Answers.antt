-- The page of good bytes; bytes that aren't are answered 15. Assumes nothing.
use Rattle.std.proofs.Common.{rules, ◌≡◌, ◌∙◌, sym, inl, inr}
use Rattle.std.specs.Prelude.{None}
use Rattle.cottonsedge.proofs.Entry.{not-good}
use Rattle.cottonsedge.proofs.PageLaws.{image-good, paged-bad, paged-good}
use Rattle.cottonsedge.proofs.rows.cottonsedge_rows.Goals as goal
use Rattle.cottonsedge.proofs.rows.cottonsedge_rows.Goals.{in_default-via-in-None-1, in_default-via-in-Some+in-None-1}

pub page_of-requires : goal.page_of-requires
page_of-requires c = image-good _ _ c.in-Some-as_array.ensures.cases.same _ c.in-Some.ensures

pub returns-in-Some-as_array : goal.returns-in-Some-as_array
returns-in-Some-as_array c =
    let page = c.page_of.ensures in
    paged-good _ _ c.in-Some-as_array.ensures.cases.same _ c.in-Some.ensures _ _ _ _ _ page.answer page.rows c.into.ensures c.pack.ensures

pub returns-in_default : goal.returns-in_default
returns-in_default c =
    let bs = c.args.tables.now in
    let bad = not-good bs (elim c.in_default.branch [
      | in_default-via-in-None-1 w ↦ let none : c.runner.result ≡ None = search rules in inl (sym none ∙ c.runner.ensures)
      | in_default-via-in-Some+in-None-1 w ↦ let none : w.as_array.result ≡ None = search rules in let other = w.as_array.ensures.cases in inr (rw none at other)
    ])
    in
    paged-bad bs _ _ bad c.not_sound.ensures
