-- `hiring::draw_rows` meets its contract. The loop's invariant: the first `i` lines are drawn. Assumes nothing.
use Rattle.hiring.specs.Inner.{kind_of, RowsDrawn}
use Rattle.hiring.proofs.draw_rows.Given as goal

abbrev pub invariant-loop-i : goal.invariant-loop-i
invariant-loop-i l = RowsDrawn (kind_of l.kind) l.count l.state l.rows l.now l.i
