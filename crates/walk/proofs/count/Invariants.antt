-- `walk::count` meets its contract. The loop's invariant: the state is one that the walk comes to, after n selections.
use mathlib.Core.Path.{◌≡◌}
use mathlib.Core.List.{List}
use Prim.Native.Nat.{ℕ}
use lib.ListN.{length}
use Rattle.walk.proofs.Stepping.{remaining, Walked}
use Rattle.walk.proofs.count.Given as goal

abbrev pub invariant-loop-n : goal.invariant-loop-n
invariant-loop-n l = (seen : List (List ℕ)) × (l.n ≡ length seen) × Walked l.levels.kept.now l.levels.gains.now l.levels.needs.now l.levels.count l.triggers l.walk seen

abbrev pub decreases-loop-n : goal.decreases-loop-n
decreases-loop-n l = length (remaining l.levels.kept.now l.levels.gains.now l.levels.count l.walk)
