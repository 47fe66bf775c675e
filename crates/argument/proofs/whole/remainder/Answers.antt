-- `argument::whole::remainder` meets its contract. The loop's invariant: the digits before `at` are read, and `rest` is their remainder.
-- Assumes nothing.
use mathlib.Core.Path.{sym, ◌∙◌}
use Rattle.argument.proofs.WholeLaws.{rest_digit, rest_end, rest_other}
use Rattle.argument.proofs.whole.remainder.Goals as goal

pub loop-at-preserved : goal.loop-at-preserved
loop-at-preserved c =
    rest_digit c.loop-at.invariant _ c.loop-at-test.true (sym c.is_ascii_digit.ensures.value ∙ c.if-not-is_ascii_digit.false)
    c.with_digit-rest.ensures

pub returns-after-loop-at : goal.returns-after-loop-at
returns-after-loop-at c = rest_end c.loop-at.invariant c.loop-at-test.false

pub returns-then-not-is_ascii_digit : goal.returns-then-not-is_ascii_digit
returns-then-not-is_ascii_digit c =
    rest_other c.loop-at.invariant c.loop-at-test.true (sym c.is_ascii_digit.ensures.value ∙ c.if-not-is_ascii_digit.true)
