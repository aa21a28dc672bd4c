-- Only who waits has something awaited, and a place. Assumes nothing.
use mathlib.Core.Path.{◌∙◌, ap, sym}
use Rattle.tables.specs.States.{awaits}
use Rattle.status.specs.Rows.{awaited_shown, state_number}
use Rattle.status.proofs.RowLaws.{none-awaited, place-of-none, place-of-waiter, row-tells}
use Rattle.status.proofs.page.row_of.Goals as goal
use Rattle.status.proofs.page.row_of.Goals.{in-Waiting, in_default}

pub returns : goal.returns
returns c =
    let x = c.process-state.result in
    elim c.match-state.branch [
      | in-Waiting w ↦
          rw w.awaited-is (row-tells _ _ x _ _ _ c.process-state.ensures (c.state_number.ensures ∙ ap state_number (w.state-is ∙ sym w.in-Waiting.is)) (ap (λ s. awaited_shown (awaits s)) (sym w.in-Waiting.is))
          (place-of-waiter _ _ x.state _ _ _ w.in-Waiting.is w.state_byte.ensures w.place_among.ensures))
      | in_default w ↦
          let none = none-awaited x.state w.in_default.not-Waiting in
          rw w.awaited-is (row-tells _ _ x _ _ _ c.process-state.ensures (c.state_number.ensures ∙ ap state_number w.state-is) (ap awaited_shown (sym none)) (place-of-none _ _ x.state none))
    ]
