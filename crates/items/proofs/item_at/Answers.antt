-- `items::item_at` meets its contract. Assumes nothing.
use mathlib.Core.Path.{sym, ◌∙◌}
use Rattle.items.proofs.ItemLaws.{item_end, item_zero, item_signed, item_numeral, item_none}
use Rattle.items.proofs.item_at.Goals as goal

pub returns-then-s-at : goal.returns-then-s-at
returns-then-s-at c = item_end _ _ c.if-s-at.true

pub returns-then-b-eq48 : goal.returns-then-b-eq48
returns-then-b-eq48 c = item_zero _ _ c.if-s-at.false c.args.most c.if-b-eq48.true _ c.positive.ensures

pub returns-then-b-eq45 : goal.returns-then-b-eq45
returns-then-b-eq45 c = item_signed _ _ c.if-s-at.false c.args.most c.if-b-eq45.true c.signed_at.result c.signed_at.ensures

pub returns-then-is_leading : goal.returns-then-is_leading
returns-then-is_leading c =
    item_numeral _ _ c.if-s-at.false c.if-b-eq48.false c.if-b-eq45.false _
    (sym c.is_leading.ensures ∙ c.if-is_leading.true) (rw c.from.ensures at c.numeral_from-m.ensures)
    c.positive-then-is_leading.ensures

pub returns : goal.returns
returns c = item_none _ _ c.if-s-at.false c.if-b-eq48.false c.if-b-eq45.false (sym c.is_leading.ensures ∙ c.if-is_leading.false)
