-- `order::pass` meets its contract: the first `i` rows have been raised.
use Rattle.order.proofs.OrderLaws.{Passing}
use Rattle.order.proofs.pass.Given as goal

abbrev pub invariant-loop-i : goal.invariant-loop-i
invariant-loop-i l = Passing l.n l.k l.initial.star l.star l.i
