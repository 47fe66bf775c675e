-- `tally::cut_below` meets its contract: the levels from `k` on have been cut.
use Prim.Native.Nat.{◌<◌}
use Rattle.tally.specs.Counting.{Speaks, behind}
use Rattle.tally.proofs.cut_below.Given as goal

abbrev pub invariant-loop-k : goal.invariant-loop-k
invariant-loop-k l = Speaks (behind l.gains l.level l.left l.j) l.k l.r × (l.level < l.k)
