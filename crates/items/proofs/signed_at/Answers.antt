-- `items::signed_at` meets its contract. Assumes nothing.
use mathlib.Core.Path.{sym, ◌∙◌}
use Rattle.items.proofs.ItemLaws.{signed_end, signed_numeral, signed_other}
use Rattle.items.proofs.signed_at.Goals as goal

pub returns-then-s-at : goal.returns-then-s-at
returns-then-s-at c = signed_end _ _ c.args.most c.requires.0 c.if-s-at.true

pub returns-then-is_leading : goal.returns-then-is_leading
returns-then-is_leading c =
    signed_numeral _ _ c.if-s-at.false _ (sym c.is_leading.ensures ∙ c.if-is_leading.true)
    (rw c.from.ensures at c.numeral_from-m.ensures) c.negative.ensures

pub returns : goal.returns
returns c = signed_other _ _ c.if-s-at.false c.args.most (sym c.is_leading.ensures ∙ c.if-is_leading.false)
