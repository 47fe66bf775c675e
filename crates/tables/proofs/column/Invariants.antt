-- `tables::column` meets its contract. The places passed are written. Assumes nothing.
use mathlib.Core.Path.{◌≡◌}
use Rattle.tables.specs.Held.{cell}
use Rattle.tables.proofs.Loops.{Filled}
use Rattle.tables.proofs.column.Given as goal

abbrev pub invariant-loop-i : goal.invariant-loop-i
invariant-loop-i l = Filled (λ i v. v ≡ cell l.table i l.j) 0 l.r l.i
