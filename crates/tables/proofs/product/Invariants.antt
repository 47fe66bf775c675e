-- `tables::product` meets its contract. The rows passed are written. Assumes nothing.
use mathlib.Core.List.{[]}
use Rattle.maxplus.specs.Tables.{mm}
use Rattle.tables.specs.Held.{meant, HoldsV}
use Rattle.tables.proofs.Loops.{Filled}
use Rattle.tables.proofs.product.Given as goal

abbrev pub invariant-loop-i : goal.invariant-loop-i
invariant-loop-i l = Filled (λ i w. HoldsV l.n (mm l.k (meant l.a) (meant l.b) i) w) [] l.r l.i
