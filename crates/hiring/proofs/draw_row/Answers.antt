-- `hiring::draw_row` meets its contract. The loop's invariant: the first `j` items are drawn. Assumes nothing.
use Rattle.std.proofs.Common.{refl, arith}
use Rattle.hiring.proofs.DrawLaws.{row_none, row_more}
use Rattle.hiring.proofs.draw_row.Goals as goal

pub loop-j-init : goal.loop-j-init
loop-j-init c = row_none _ _ _ _ refl

pub loop-j-preserved : goal.loop-j-preserved
loop-j-preserved c = row_more _ _ _ c.loop-j.invariant (omega arith) c.draw-now.ensures c.item.ensures
