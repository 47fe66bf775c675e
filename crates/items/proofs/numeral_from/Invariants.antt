-- `items::numeral_from` meets its contract. The loop's invariant: the digits before `at` are read, and count for `value`.
-- Assumes nothing.
use Rattle.items.proofs.ItemLaws.{ReadTo}
use Rattle.items.proofs.numeral_from.Given as goal

abbrev pub invariant-loop-at : goal.invariant-loop-at
invariant-loop-at l = ReadTo l.most l.s l.from l.first l.at l.value
