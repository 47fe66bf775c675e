-- `rays::thin` meets its contract: the first `k` rays have been looked at, and `left` of them stay.
use Rattle.rays.proofs.RayLaws.{Thinning}
use Rattle.rays.proofs.thin.Given as goal

abbrev pub invariant-loop-k : goal.invariant-loop-k
invariant-loop-k l = Thinning l.initial.set.rows l.words l.set.rows l.left l.k
