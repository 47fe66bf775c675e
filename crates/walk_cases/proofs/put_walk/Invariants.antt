-- `walk_cases::put_walk` is safe and ends. The loop's invariant: the state is one that the walk comes to. Assumes nothing.
use mathlib.Core.List.{List}
use Prim.Native.Nat.{ℕ}
use lib.ListN.{length}
use Rattle.walk.proofs.Stepping.{remaining, Walked}
use Rattle.walk_cases.proofs.put_walk.Given as goal

abbrev pub invariant-loop-place : goal.invariant-loop-place
invariant-loop-place l = (seen : List (List ℕ)) × Walked l.levels.kept.now l.levels.gains.now l.levels.needs.now l.levels.count l.triggers l.w seen

abbrev pub decreases-loop-place : goal.decreases-loop-place
decreases-loop-place l = length (remaining l.levels.kept.now l.levels.gains.now l.levels.count l.w)
