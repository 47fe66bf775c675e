-- `spares::picked_rows` meets its contract. The rows passed are copied. Assumes nothing.
use mathlib.Core.Path.{◌≡◌}
use mathlib.Core.List.{[]}
use lib.ListN.{get_or}
use Rattle.tables.proofs.Loops.{Filled}
use Rattle.spares.proofs.picked_rows.Given as goal

abbrev pub invariant-loop-k : goal.invariant-loop-k
invariant-loop-k l = Filled (λ k w. w ≡ get_or l.table (get_or l.p.at k 0) []) [] l.r l.k
