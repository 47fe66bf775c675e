-- `spares::in_use` meets its contract. Assumes nothing.
use mathlib.Core.Path.{sym, ◌∙◌}
use Rattle.spares.proofs.TiedLaws.{column_there, row_there, tied_lag, tied_row, tied_column}
use Rattle.spares.proofs.in_use.Goals.{then-present, else-present}
use Rattle.spares.proofs.in_use.Goals as goal

pub returns-then-present-2 : goal.returns-then-present-2
returns-then-present-2 c =
    let lag = column_there _ _ _ _ _ c.requires.1 c.column.ensures c.largest.ensures c.present.ensures in
    rw c.if-present-2.true (elim c.if-present.branch [
      | then-present w ↦ tied_lag _ _ _ _ _ (sym w.if-present.true ∙ lag)
      | else-present w ↦
          let row = row_there _ _ _ _ w.largest-else-present.ensures w.present-else-present.ensures in
          tied_row _ _ _ _ _ (sym w.if-present.false ∙ lag) (sym c.if-present-2.true ∙ w.value-is ∙ row)
    ])

pub returns-else-present-2 : goal.returns-else-present-2
returns-else-present-2 c = elim c.if-present.branch [
  | then-present w ↦ cc
  | else-present w ↦
      let lag = column_there _ _ _ _ _ c.requires.1 c.column.ensures c.largest.ensures c.present.ensures in
      let row = row_there _ _ _ _ w.largest-else-present.ensures w.present-else-present.ensures in
      tied_column _ _ _ _ _ (sym w.if-present.false ∙ lag) (sym c.if-present-2.false ∙ w.value-is ∙ row)
      (column_there _ _ _ _ _ c.requires.2 c.column-else-present-2.ensures c.largest-else-present-2.ensures c.present-else-present-2.ensures)
]
