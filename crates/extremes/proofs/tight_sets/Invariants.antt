-- `extremes::tight_sets` meets its contract. The sets of the panels passed are written. Assumes nothing.
use Rattle.maxplus.specs.Entry.{◌⊗◌}
use Rattle.words.specs.Words.{entry}
use Rattle.tables.specs.Held.{meant, meant_v}
use Rattle.tables.proofs.Loops.{Filled}
use Rattle.candidates.specs.Rays.{Reaching}
use Rattle.extremes.proofs.tight_sets.Given as goal

abbrev pub invariant-loop-i : goal.invariant-loop-i
invariant-loop-i l =
    Filled (λ i m. Reaching l.line.count (λ j. meant l.lag i j ⊗ meant_v l.line.at j) (meant_v l.asks i) (entry l.most) m) 0 l.r l.i
