-- `reading::lag_missing` meets its contract. Assumes nothing.
use Rattle.reading.proofs.MissingLaws.{empty_is, lag_decides, row_decides, column_decides, land_decides}
use Rattle.reading.proofs.lag_missing.Goals as goal

pub returns-then-not-empty_column : goal.returns-then-not-empty_column
returns-then-not-empty_column c = lag_decides c.empty_column.ensures _ _ _ c.if-not-empty_column.true-raw

pub returns-then-not-empty : goal.returns-then-not-empty
returns-then-not-empty c = row_decides c.empty_column.ensures c.if-not-empty_column.false-raw (empty_is _ c.empty.result c.empty.ensures) _ _ c.if-not-empty.true-raw

pub returns-then-not-empty_column-2 : goal.returns-then-not-empty_column-2
returns-then-not-empty_column-2 c =
    column_decides c.empty_column.ensures c.if-not-empty_column.false-raw (empty_is _ c.empty.result c.empty.ensures) c.if-not-empty.false-raw
    c.empty_column-2.ensures _ c.if-not-empty_column-2.true-raw

pub returns : goal.returns
returns c =
    land_decides c.empty_column.ensures c.if-not-empty_column.false-raw (empty_is _ c.empty.result c.empty.ensures) c.if-not-empty.false-raw
    c.empty_column-2.ensures c.if-not-empty_column-2.false-raw (empty_is _ c.lands_empty.result c.lands_empty.ensures)
