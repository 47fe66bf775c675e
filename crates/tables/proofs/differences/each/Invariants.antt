-- `tables::differences::each` meets its contract. The places passed are written. Assumes nothing.
use lib.ListN.{get_or}
use Rattle.tables.proofs.Loops.{Filled}
use Rattle.tables.proofs.differences.each.Given as goal

abbrev pub invariant-loop-j : goal.invariant-loop-j
invariant-loop-j g l = Filled (λ j v. goal.F-post g l.f (get_or l.row j 0) v) 0 l.r l.j
