-- `laying::cap::line_at` meets its contract: the entries of the first `j` components are written. Assumes nothing.
use Rattle.maxplus.specs.Line.{at}
use Rattle.cue.specs.Standing.{line_at}
use Rattle.words.specs.Words.{signed_far}
use Rattle.tables.specs.Lines.{WordsOf}
use Rattle.laying.proofs.cap.line_at.Given as goal

abbrev pub invariant-loop-j : goal.invariant-loop-j
invariant-loop-j l = WordsOf l.j signed_far (at l.n (line_at l.n l.space l.from)) l.r
