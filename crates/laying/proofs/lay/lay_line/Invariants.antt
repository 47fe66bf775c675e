-- `laying::lay::lay_line` meets its contract: the first `j` triggers have been looked at, and `k` of them are in use.
use Rattle.laying.proofs.LayLaws.{Laying}
use Rattle.laying.proofs.lay.lay_line.Given as goal

abbrev pub invariant-loop-j : goal.invariant-loop-j
invariant-loop-j l = Laying l.p l.packed l.initial.space l.from l.space l.k l.j
