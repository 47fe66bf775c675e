-- `items::numeral_from` meets its contract. The loop's invariant: the digits before `at` are read, and count for `value`.
-- Assumes nothing.
use native.Mathlib.Numerals.{add-one}
use native.Mathlib.Omega.{arith}
use mathlib.Core.Path.{◌≡◌, sym, ◌∙◌}
use lib.ListN.{length}
use Rattle.items.proofs.ItemLaws.{read_digit, read_whole, stop_end, stop_other}
use Rattle.items.proofs.numeral_from.Goals as goal

pub loop-at-preserved : goal.loop-at-preserved
loop-at-preserved c =
    read_digit c.loop-at.invariant _ c.loop-at-test.true (sym c.is_ascii_digit.ensures.value ∙ c.if-not-is_ascii_digit.false)
    (rw (c.from.ensures, add-one) at c.min-value.ensures)

pub returns : goal.returns
returns c =
    let r = c.loop-at.invariant in
    let e : c.loop-at.at ≡ length c.args.s.now = omega arith in
    read_whole (rw e at r) (stop_end c.args.s.now (length c.args.s.now) (omega arith))

pub returns-then-not-is_ascii_digit : goal.returns-then-not-is_ascii_digit
returns-then-not-is_ascii_digit c =
    read_whole c.loop-at.invariant (stop_other _ _ c.loop-at-test.true (sym c.is_ascii_digit.ensures.value ∙ c.if-not-is_ascii_digit.true))
