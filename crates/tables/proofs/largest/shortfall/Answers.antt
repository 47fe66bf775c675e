-- `tables::largest::shortfall` meets its contract. Best is the largest difference of the rows passed. Assumes nothing.
use mathlib.Core.Path.{◌≡◌}
use native.Mathlib.Omega.{arith}
use Rattle.words.proofs.Laws.{close_more}
use Rattle.cue.specs.Cue.{shortfall}
use Rattle.tables.specs.Held.{meant_v}
use Rattle.tables.proofs.Loops.{largest_none, largest_more}
use Rattle.tables.proofs.LargestLaws.{close_dot}
use Rattle.tables.proofs.largest.shortfall.Goals as goal

pub loop-i-init : goal.loop-i-init
loop-i-init c = largest_none _

pub minus-short-requires : goal.minus-short-requires
minus-short-requires c = (
  close_more (omega arith) (c.requires.3.at _ (omega arith)),
  close_more (omega arith) (close_dot _ _ (omega arith) c.requires.2 c.requires.4 c.dot-lands.ensures),
)

pub loop-i-preserved : goal.loop-i-preserved
unfolding meant_v
loop-i-preserved c =
    let e = rw c.dot-lands.ensures at c.minus-short.ensures in
    largest_more _ _ _ _ _ e c.loop-i.invariant c.larger-best.ensures

pub returns : goal.returns
unfolding shortfall
returns c = let e : c.loop-i.i ≡ c.args.m = omega arith in rw e at c.loop-i.invariant
