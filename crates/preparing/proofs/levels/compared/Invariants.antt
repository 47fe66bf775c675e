-- `marks::levels::compared` meets its contract. The rows passed are written. Assumes nothing.
use mathlib.Core.List.{[]}
use lib.ListN.{get_or}
use Rattle.maxplus.specs.Entry.{◌⊗◌, inv}
use Rattle.tables.specs.Held.{meant, meant_v, HoldsV}
use Rattle.tables.proofs.Loops.{Filled}
use Rattle.preparing.proofs.levels.compared.Given as goal

abbrev pub invariant-loop-l : goal.invariant-loop-l
invariant-loop-l l =
    Filled (λ a w. HoldsV l.n (λ j. meant l.through (get_or l.at a 0) j ⊗ inv (meant_v l.floor (get_or l.at a 0))) w) [] l.gains l.l ×
    Filled (λ a w. HoldsV l.n (λ j. meant_v l.asks (get_or l.at a 0) ⊗ inv (meant l.through (get_or l.at a 0) j)) w) [] l.needs l.l
