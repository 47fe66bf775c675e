-- `rows::out_of_range` meets its contract. Assumes nothing.
use Rattle.rows.proofs.FaultLaws.{range_above, range_below}
use Rattle.rows.proofs.out_of_range.Goals as goal

pub returns-then-above-gt-LIMIT : goal.returns-then-above-gt-LIMIT
returns-then-above-gt-LIMIT c = range_above _ _ c.above.ensures c.if-above-gt-LIMIT.true

pub returns : goal.returns
returns c = range_below _ _ _ c.above.ensures c.if-above-gt-LIMIT.false c.below.ensures
