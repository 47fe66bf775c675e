-- `extremes::held_sets` meets its contract. The sets of the triggers passed are written. Assumes nothing.
use Rattle.tables.specs.Held.{meant, meant_v}
use Rattle.tables.proofs.Loops.{Filled}
use Rattle.trigger_sets.specs.Sets.{SetOf}
use Rattle.candidates.specs.Rays.{Held}
use Rattle.extremes.proofs.held_sets.Given as goal

abbrev pub invariant-loop-k : goal.invariant-loop-k
invariant-loop-k l = Filled (λ k m. SetOf (λ j. Held l.n (meant l.star) (meant_v l.line.at) k j) m) 0 l.r l.k
