-- `laying::cap::add_caps` meets its contract: the first `k` lines are left to be moved.
use Rattle.laying.proofs.CapLaws.{Capping}
use Rattle.laying.proofs.cap.add_caps.Given as goal

abbrev pub invariant-loop-k : goal.invariant-loop-k
invariant-loop-k l = Capping l.n l.overruns l.count l.initial.space l.space l.k
