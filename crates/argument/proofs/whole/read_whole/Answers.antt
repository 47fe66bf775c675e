-- `argument::whole::read_whole` meets its contract. Assumes nothing.
use mathlib.Core.Path.{ap, sym, ◌∙◌}
use Rattle.argument.specs.Inner.{whole_of}
use Rattle.argument.proofs.WholeLaws.{lone, lone_minus, not_alone, no_item, whole_below, whole_above}
use Rattle.argument.proofs.whole.read_whole.Goals as goal

pub returns-in_err-item : goal.returns-in_err-item
returns-in_err-item c = c.from_residual.ensures ∙ ap whole_of (sym (no_item _ c.in_err-item.ensures))

pub returns-then-not-present : goal.returns-then-not-present
returns-then-not-present c =
    ap whole_of (sym (lone_minus _ c.in_ok-item.ensures (sym c.present.ensures ∙ c.if-not-present.true)))

pub returns-then-item-s : goal.returns-then-item-s
returns-then-item-s c = ap whole_of (sym (not_alone _ c.in_ok-item.ensures c.if-item-s.true))

pub returns-then-below-gt0 : goal.returns-then-below-gt0
returns-then-below-gt0 c =
    whole_below (lone _ c.in_ok-item.ensures (sym c.present.ensures ∙ c.if-not-present.false) c.if-item-s.false) c.below-below.ensures c.if-below-gt0.true c.remainder.ensures

pub returns : goal.returns
returns c =
    whole_above (lone _ c.in_ok-item.ensures (sym c.present.ensures ∙ c.if-not-present.false) c.if-item-s.false) c.below-below.ensures c.if-below-gt0.false c.above.ensures c.remainder-2.ensures
