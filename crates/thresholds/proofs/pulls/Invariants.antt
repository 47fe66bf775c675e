-- `thresholds::pulls` meets its contract. The pulls passed are written. Assumes nothing.
use mathlib.Core.Path.{◌≡◌}
use Rattle.words.specs.Words.{entry}
use Rattle.cue.specs.Cue.{overdue}
use Rattle.tables.specs.Held.{meant, meant_v}
use Rattle.tables.proofs.Loops.{Filled}
use Rattle.thresholds.proofs.pulls.Given as goal

abbrev pub invariant-loop-j : goal.invariant-loop-j
invariant-loop-j l = Filled (λ j v. entry v ≡ overdue l.n (meant_v l.due) (λ i. meant l.star i j)) 0 l.r l.j
