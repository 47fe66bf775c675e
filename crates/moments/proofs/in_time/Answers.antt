-- `moments::in_time` meets its contract. The triggers passed land in time. Assumes nothing.
use native.Mathlib.Omega.{arith}
use borrow.Author.Count.{below_more}
use Rattle.words.proofs.Laws.{within_word, beyond_word}
use Rattle.tables.specs.Held.{meant_v}
use Rattle.moments.proofs.MomentLaws.{zero_is}
use Rattle.moments.proofs.in_time.Goals as goal

pub returns-then-of_number-plus : goal.returns-then-of_number-plus
unfolding meant_v
returns-then-of_number-plus c = λ k. beyond_word c.plus.ensures c.if-of_number-plus.true (rw (zero_is c.of_number.ensures).0 (k c.loop-j.j (omega arith)))

pub loop-j-preserved : goal.loop-j-preserved
unfolding meant_v
loop-j-preserved c = below_more _ _ c.loop-j.invariant (rw (zero_is c.of_number.ensures).0 at (within_word c.plus.ensures c.if-of_number-plus.false))
