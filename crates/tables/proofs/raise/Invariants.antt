-- `tables::raise` meets its contract: the places passed have been raised. Assumes nothing.
use Rattle.words.specs.Words.{entry}
use Rattle.tables.specs.Held.{meant_v}
use Rattle.tables.proofs.SquareLaws.{Raising}
use Rattle.tables.proofs.raise.Given as goal

abbrev pub invariant-loop-j : goal.invariant-loop-j
invariant-loop-j l = Raising (entry l.shift) (meant_v l.y) l.initial.r l.r l.j
