-- The walk over the rows: each turn writes the next one. Assumes nothing.
use Rattle.std.proofs.Common.{rules, ◌≡◌, ◌+◌, ◌<◌, length, ◌∙◌, sym, refl, ap, arith, add-one, length-set}
use lib.IntN.{pos}
use mir.Syntax.{w32}
use mir.ValLaws.{to_z-of_z}
use Rattle.layout.specs.Bytes.{from_bytes}
use Rattle.tables.specs.Readers.{live}
use Rattle.lists.proofs.NumberLaws.{listed-done, listed_next}
use Rattle.rules.specs.declared.Answer.TheVariants.{Done, Refused}
use Rattle.soundness.proofs.GoodBytes.{good-formed}
use Rattle.status.specs.declared.Row.{Row}
use Rattle.status.specs.Search.{row_from}
use Rattle.status.proofs.LiveLaws.{next_of, next_small}
use Rattle.status.proofs.RowByRow.{row_at, row_next}
use Rattle.cottonsedge.proofs.PageLaws.{answer-done, answer-few, live-is, rows-done, rows-few}
use Rattle.cottonsedge.proofs.rows.page_of.Goals as goal
use Rattle.cottonsedge.proofs.rows.page_of.Goals.{After-live_count-many, After-row_from}

-- as many as are live
counted : (c : After-live_count-many) → c.live_count-many.result ≡ length (live (from_bytes c.args.bytes.now))
counted c = live-is c.args.bytes.now 0 _ c.fits-bytes c.requires c.live_count-many.ensures

pub returns-then-rows-many-clause-answer : goal.returns-then-rows-many-clause-answer
returns-then-rows-many-clause-answer c =
    let few = rw (counted (goal.at.returns-then-rows-many-clause-answer c).After-live_count-many) at c.if-rows-many.true in
    ap Refused c.into.ensures ∙ sym (answer-few c.args.bytes.now _ c.requires few)

pub returns-then-rows-many-clause-rows : goal.returns-then-rows-many-clause-rows
returns-then-rows-many-clause-rows c =
    let few = rw (counted (goal.at.returns-then-rows-many-clause-rows c).After-live_count-many) at c.if-rows-many.true in
    sym (rows-few c.args.bytes.now c.args.rows.now c.requires few)

pub loop-row-init : goal.loop-row-init
loop-row-init c = (search rules, refl, refl)

pub row_from-requires : goal.row_from-requires
row_from-requires c = good-formed c.args.bytes.now c.requires

-- the row that is looked for is found, and the next one behind it
found : (c : After-row_from) → c.row_from.result ≡ row_at (from_bytes c.args.bytes.now) c.loop-row.row-index
found c =
    let t = from_bytes c.args.bytes.now in
    let due : c.loop-row.row-index < length (live t) = omega (arith, counted (goal.at.loop-row-preserved c).After-live_count-many, c.loop-row.auto.row-items) in
    c.row_from.ensures ∙ ap (row_from t) c.loop-row.invariant.1 ∙ row_next t c.loop-row.row-index due

behind : (c : After-row_from) → c.row_from.result.number + 1 ≡ next_of (from_bytes c.args.bytes.now) (c.loop-row.row-index + 1)
behind c = ap (λ (x : Row). x.number + 1) (found c) ∙ ap (next_of (from_bytes c.args.bytes.now)) (sym (add-one c.loop-row.row-index))

pub overflow_add-p : goal.overflow_add-p
overflow_add-p c = record { fits = rw (behind c) (next_small (from_bytes c.args.bytes.now) (c.loop-row.row-index + 1)) }

pub loop-row-preserved : goal.loop-row-preserved
loop-row-preserved c =
    let loop = c.loop-row in
    let inv = loop.invariant in
    let t = from_bytes c.args.bytes.now in
    (length-set _ _ _ ∙ inv.0, behind c, listed_next (row_at t) c.live_count-many.result loop.row-items inv.0 loop.row-index (row_at t 0) _ inv.2 (omega arith) (found c))

pub returns-clause-answer : goal.returns-clause-answer
returns-clause-answer c =
    let k = counted (goal.at.returns-clause-answer c).After-live_count-many in
    ap Done (to_z-of_z w32 _ (record { sfits = c.into-2.type_inv }) ∙ c.into-2.ensures ∙ ap pos k) ∙ sym (answer-done c.args.bytes.now _ c.requires (omega arith))

pub returns-clause-rows : goal.returns-clause-rows
returns-clause-rows c =
    let loop = c.loop-row in
    let inv = loop.invariant in
    let n = c.live_count-many.result in
    let k = counted (goal.at.returns-clause-rows c).After-live_count-many in
    let written = listed-done (row_at (from_bytes c.args.bytes.now)) n loop.row-items inv.0 loop.row-index (omega (arith, c.loop-row.auto.row-items)) inv.2 in
    rows-done c.args.bytes.now c.args.rows.now c.requires n k (omega arith) loop.row-items written
