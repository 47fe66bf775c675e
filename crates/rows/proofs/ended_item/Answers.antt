-- `rows::ended_item` meets its contract. Assumes nothing.
use Rattle.sheet.specs.Sheet.{limit}
use Rattle.items.proofs.ItemLaws.{line_ends, item_ends, ended_short, ended_differs, ended_whole, ended_none}
use Rattle.rows.proofs.ended_item.Goals as goal
use Rattle.rows.proofs.ended_item.Goals.{then-left-eq0, else-left-eq0}

pub returns-then-s-item : goal.returns-then-s-item
returns-then-s-item c =
    ended_short limit _ _ c.args.at _ c.in_ok-item.ensures
    (elim c.if-left-eq0.branch [ then-left-eq0 w ↦ line_ends _ _ w.if-left-eq0.true w.end-is | else-left-eq0 w ↦ item_ends _ _ w.if-left-eq0.false w.end-is ]) c.if-s-item.true

pub returns-then-s-item-2 : goal.returns-then-s-item-2
returns-then-s-item-2 c =
    ended_differs limit _ _ c.args.at _ c.in_ok-item.ensures
    (elim c.if-left-eq0.branch [ then-left-eq0 w ↦ line_ends _ _ w.if-left-eq0.true w.end-is | else-left-eq0 w ↦ item_ends _ _ w.if-left-eq0.false w.end-is ]) c.if-s-item.false c.if-s-item-2.true

pub returns : goal.returns
returns c =
    ended_whole limit _ _ c.args.at _ c.in_ok-item.ensures
    (elim c.if-left-eq0.branch [ then-left-eq0 w ↦ line_ends _ _ w.if-left-eq0.true w.end-is | else-left-eq0 w ↦ item_ends _ _ w.if-left-eq0.false w.end-is ]) c.if-s-item.false c.if-s-item-2.false

pub returns-in_err-item : goal.returns-in_err-item
returns-in_err-item c = rw c.from_residual.ensures (ended_none _ _ c.in_err-item.ensures)
