-- `keeping::ones_of` meets its contract. The counts passed are written. Assumes nothing.
use mathlib.Core.Path.{◌≡◌}
use lib.Count.{ones}
use lib.ListN.{get_or}
use Rattle.tables.proofs.Loops.{Filled}
use Rattle.keeping.proofs.ones_of.Given as goal

abbrev pub invariant-loop-i : goal.invariant-loop-i
invariant-loop-i l = Filled (λ i v. v ≡ ones (get_or l.kept i 0)) 0 l.r l.i
