-- `order::pass` meets its contract: the first `i` rows have been raised.
use native.Mathlib.Omega.{arith}
use Rattle.tables.specs.Held.{meant, meant_v}
use Rattle.order.proofs.OrderLaws.{passing_more, passing_raised}
use Rattle.order.proofs.pass.Goals as goal

pub loop-i-preserved : goal.loop-i-preserved
unfolding meant meant_v
loop-i-preserved c =
    let p = c.loop-i.invariant in
    passing_more (omega (arith, c.requires.0, c.loop-i-test.true)) p (passing_raised p c.raise.ensures)
