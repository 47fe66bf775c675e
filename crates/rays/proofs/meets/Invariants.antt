-- `rays::meets` meets its contract: the first `j` triggers have not what is wanted of them.
use Rattle.rays.proofs.RayLaws.{MeetsNot}
use Rattle.rays.proofs.meets.Given as goal

abbrev pub invariant-loop-j : goal.invariant-loop-j
invariant-loop-j l = MeetsNot l.x.at l.panel.mask l.panel.wants.now l.j
