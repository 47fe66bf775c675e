-- `thresholds::least` meets its contract: the shortfall of the marks. Assumes nothing.
use native.Mathlib.Omega.{arith}
use Rattle.tables.proofs.SquareLaws.{closely_more, closely_more_v}
use Rattle.thresholds.proofs.ThresholdLaws.{zero_close, marks_close, marks_shortfall}
use Rattle.thresholds.proofs.least.Goals as goal

pub rest-marks-requires : goal.rest-marks-requires
rest-marks-requires c = (c.requires.1, closely_more_v (omega arith) c.requires.3, zero_close _ c.positive.ensures)

pub shortfall-requires : goal.shortfall-requires
shortfall-requires c = (
  c.requires.0,
  c.requires.1,
  closely_more (omega arith) c.requires.2,
  closely_more_v (omega arith) c.requires.4,
  marks_close _ c.positive.ensures c.rest-marks.ensures (omega arith) c.requires.3,
)

pub returns : goal.returns
returns c = marks_shortfall _ c.positive.ensures c.rest-marks.ensures _ _ _ _ c.shortfall.ensures
