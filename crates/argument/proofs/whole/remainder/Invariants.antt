-- `argument::whole::remainder` meets its contract. The loop's invariant: the digits before `at` are read, and `rest` is their remainder.
-- Assumes nothing.
use Rattle.argument.proofs.WholeLaws.{RestTo}
use Rattle.argument.proofs.whole.remainder.Given as goal

abbrev pub invariant-loop-at : goal.invariant-loop-at
invariant-loop-at l = RestTo l.s l.from l.at l.rest
