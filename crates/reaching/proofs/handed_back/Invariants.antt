-- `reaching::handed_back` meets its contract: the first `j` triggers have been looked at, and `k` of them are in use.
use Prim.Native.Nat.{◌≤◌}
use Rattle.reaching.proofs.HandLaws.{Handing}
use Rattle.reaching.proofs.handed_back.Given as goal

abbrev pub invariant-loop-j : goal.invariant-loop-j
invariant-loop-j l = (l.p.triggers ≤ 6) × Handing l.p l.wished l.made l.at l.k l.j
