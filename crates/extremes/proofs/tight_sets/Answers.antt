-- `extremes::tight_sets` meets its contract. The sets of the panels passed are written. Assumes nothing.
use native.Mathlib.Omega.{arith}
use Rattle.tables.specs.Held.{meant_v}
use Rattle.tables.proofs.Loops.{filled_more}
use Rattle.extremes.proofs.tight_sets.Goals as goal

pub loop-i-preserved : goal.loop-i-preserved
unfolding meant_v
loop-i-preserved c = filled_more _ 0 _ _ _ (omega arith) c.loop-i.invariant c.reaching.ensures
