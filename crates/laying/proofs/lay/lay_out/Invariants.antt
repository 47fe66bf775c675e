-- `laying::lay::lay_out` meets its contract: without a spare trigger all lines are laid out as they stand, else the first `i` of them are.
use Rattle.laying.proofs.LayLaws.{LaidOut}
use Rattle.laying.proofs.lay.lay_out.Given as goal

abbrev pub invariant-loop-i : goal.invariant-loop-i
invariant-loop-i l = LaidOut l.p l.initial.space l.space l.i
