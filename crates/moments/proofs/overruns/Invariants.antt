-- `moments::overruns` meets its contract. The overruns of the triggers passed are written. Assumes nothing.
use mathlib.Core.Path.{◌≡◌}
use Rattle.cue.specs.Cue.{overdue}
use Rattle.words.specs.Words.{entry}
use Rattle.tables.specs.Held.{meant, meant_v}
use Rattle.tables.proofs.Loops.{Filled}
use Rattle.moments.proofs.overruns.Given as goal

abbrev pub invariant-loop-j : goal.invariant-loop-j
invariant-loop-j l = Filled (λ j w. entry w ≡ overdue l.m (meant_v l.last) (λ i. meant l.lag i j)) 0 l.late l.j
