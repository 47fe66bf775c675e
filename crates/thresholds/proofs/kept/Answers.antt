-- `thresholds::kept` meets its contract. The bytes of the panels passed are written, and 0 stands past them. Assumes nothing.
use lib.ListN.{length-set}
use native.Mathlib.Omega.{arith}
use Rattle.tables.specs.Held.{meant_v}
use Rattle.thresholds.proofs.ThresholdLaws.{bytes_more}
use Rattle.thresholds.proofs.kept.Goals as goal

pub loop-i-preserved : goal.loop-i-preserved
unfolding meant_v
loop-i-preserved c =
    let l = c.loop-i in
    (simp length-set l.invariant.0, bytes_more _ _ _ _ _ l.invariant.0 (omega arith) l.invariant.1 c.panel_byte.ensures)
