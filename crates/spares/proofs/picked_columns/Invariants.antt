-- `spares::picked_columns` meets its contract. The rows passed are picked. Assumes nothing.
use mathlib.Core.List.{[]}
use lib.ListN.{get_or}
use Rattle.tables.proofs.Loops.{Filled}
use Rattle.spares.specs.Using.{Picked}
use Rattle.spares.proofs.picked_columns.Given as goal

abbrev pub invariant-loop-i : goal.invariant-loop-i
invariant-loop-i l = Filled (λ i w. Picked l.p (get_or l.table i []) w) [] l.r l.i
