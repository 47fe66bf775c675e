-- `thresholds::pulls` meets its contract. The pulls passed are written. Assumes nothing.
use native.Mathlib.Omega.{arith}
use Rattle.tables.specs.Held.{meant_v}
use Rattle.tables.proofs.Loops.{filled_more}
use Rattle.thresholds.proofs.ThresholdLaws.{column_overdue}
use Rattle.thresholds.proofs.pulls.Goals as goal

pub loop-j-preserved : goal.loop-j-preserved
loop-j-preserved c =
    filled_more _ 0 _ _ _ (omega arith) c.loop-j.invariant (column_overdue _ _ _ c.requires.0 c.column.ensures _ _ c.overdue.ensures)

pub returns : goal.returns
unfolding meant_v
returns c = record { at = λ j h. c.loop-j.invariant.done j (omega arith) }
