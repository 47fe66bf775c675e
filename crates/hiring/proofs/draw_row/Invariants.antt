-- `hiring::draw_row` meets its contract. The loop's invariant: the first `j` items are drawn. Assumes nothing.
use Rattle.hiring.specs.Inner.{kind_of, RowDrawn}
use Rattle.hiring.proofs.draw_row.Given as goal

abbrev pub invariant-loop-j : goal.invariant-loop-j
invariant-loop-j l = RowDrawn (kind_of l.kind) l.i l.state l.at l.now l.j
