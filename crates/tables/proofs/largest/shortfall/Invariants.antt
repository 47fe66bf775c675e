-- `tables::largest::shortfall` meets its contract. Best is the largest difference of the rows passed. Assumes nothing.
use mathlib.Core.Path.{◌≡◌}
use Rattle.maxplus.specs.Entry.{◌⊗◌, inv}
use Rattle.maxplus.specs.Tables.{sup, mv}
use Rattle.words.specs.Words.{entry}
use Rattle.tables.specs.Held.{meant, meant_v}
use Rattle.tables.proofs.largest.shortfall.Given as goal

abbrev pub invariant-loop-i : goal.invariant-loop-i
invariant-loop-i l = entry l.best ≡ sup l.i (λ i. meant_v l.floor i ⊗ inv (mv l.n (meant l.table) (meant_v l.x) i))
