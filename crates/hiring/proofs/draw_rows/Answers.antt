-- `hiring::draw_rows` meets its contract. The loop's invariant: the first `i` lines are drawn. Assumes nothing.
use Rattle.std.proofs.Common.{arith}
use Rattle.hiring.proofs.DrawLaws.{rows_none, rows_more}
use Rattle.hiring.proofs.draw_rows.Goals as goal

pub loop-i-init : goal.loop-i-init
loop-i-init c = rows_none _ _ _ _ c.requires.2

pub loop-i-preserved : goal.loop-i-preserved
loop-i-preserved c = rows_more _ _ _ c.loop-i.invariant (omega arith) c.draw_row-drawn.ensures
