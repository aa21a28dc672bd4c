-- The call in place, between the bytes of the tables and the tables of the bytes. Assumes nothing.
use Prim.Native.Nat.{ℕ}
use mathlib.Core.List.{List}
use mathlib.Core.Path.{◌∙◌, ◌≡◌, ap, subst, sym}
use lib.ListN.{length}
use Rattle.scheduling.specs.Steps.{Meets}
use Rattle.rules.specs.Enter.{numbered}
use Rattle.soundness.specs.Good.{good}
use Rattle.tables.specs.Limits.{process_limit, semaphore_limit}
use Rattle.cottonsedge.proofs.ByValue.{value-called, value-unsound}
use Rattle.cottonsedge.proofs.Entry.{handed-on}
use Rattle.cottonsedge.proofs.Standing.{known-runs}
use Rattle.layout.proofs.Image.{unmapped}
use Rattle.soundness.proofs.GoodBytes.{none-bad, some-good}
use borrow.Author.Rules.{rules}
use Rattle.cottonsedge.proofs.value.call.Goals as goal
use Rattle.cottonsedge.proofs.value.call.Goals.{After-encode}

slots : (c : After-encode) → length c.args.tables.processes ≡ process_limit
slots c = search (rules, unmapped)

entries : (c : After-encode) → length c.args.tables.semaphores ≡ semaphore_limit
entries c = search (rules, unmapped)

places : (c : After-encode) → length c.args.tables.order ≡ process_limit
places c = search rules

pub returns-in-None : goal.returns-in-None
returns-in-None c =
    let e = (goal.at.returns-in-None c).After-encode in
    let made = c.encode.ensures in
    let bad = ap good (sym made.0) ∙ none-bad _ c.in-None.ensures in
    rw c.into.ensures (value-unsound c.args.tables _ _ _ (slots e) (entries e) (places e) made.1 bad)

pub returns-in-Some : goal.returns-in-Some
returns-in-Some c =
    let e = (goal.at.returns-in-Some c).After-encode in
    let n = c.args.number in
    let a = c.args.a in
    let b = c.args.b in
    let bytes = c.encode.new.bytes in
    let made = c.encode.ensures in
    let known = some-good bytes _ c.in-Some.ensures in
    let after = c.call-told.new.bytes in
    let r = c.call-told.result in
    let d = handed-on n a b bytes after r c.ranges.a c.ranges.b (c.call-told.ensures (known-runs bytes _ known.1)) in
    let did = subst (λ (bs : List ℕ). Meets (λ t. numbered t n a b) bs after r) made.0 d in
    rw c.decode.ensures (value-called c.args.tables n a b (slots e) (entries e) (places e) made.1 (ap good (sym made.0) ∙ known.0) after r did)
