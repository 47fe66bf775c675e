-- `order::closed` meets its contract: the table holds the ways through the first `k` triggers, and no way round them gains.
use Rattle.order.proofs.OrderLaws.{WaysHeld}
use Rattle.order.proofs.closed.Given as goal

abbrev pub invariant-loop-k : goal.invariant-loop-k
invariant-loop-k l = WaysHeld l.n l.order l.k l.star
