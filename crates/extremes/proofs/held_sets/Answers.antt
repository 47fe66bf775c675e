-- `extremes::held_sets` meets its contract. The sets of the triggers passed are written. Assumes nothing.
use native.Mathlib.Omega.{arith}
use Rattle.tables.proofs.Loops.{filled_more}
use Rattle.extremes.proofs.held_sets.Goals as goal

pub loop-k-preserved : goal.loop-k-preserved
loop-k-preserved c = filled_more _ 0 _ _ _ (omega arith) c.loop-k.invariant c.held_by.ensures
