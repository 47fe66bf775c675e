-- `tables::largest::largest_of` meets its contract. Best is the largest of the places passed. Assumes nothing.
use Rattle.tables.proofs.Loops.{largest_none, largest_more}
use Rattle.tables.proofs.largest.largest_of.Goals as goal

pub loop-j-init : goal.loop-j-init
loop-j-init g c = λ e h. largest_none e

pub loop-j-preserved : goal.loop-j-preserved
loop-j-preserved g c = λ e h.
    largest_more e _ _ _ _ (h c.loop-j.j c.loop-j-test.true _ c.f.ensures) (c.loop-j.invariant e h) c.larger-best.ensures
