-- `tables::row_product` meets its contract. The largest over the ways passed. Assumes nothing.
use mathlib.Core.Path.{◌≡◌}
use lib.ListN.{length}
use Rattle.maxplus.specs.Entry.{◌⊗◌}
use Rattle.maxplus.specs.Tables.{sup}
use Rattle.tables.specs.Held.{meant, meant_v, HoldsV}
use Rattle.tables.proofs.row_product.Given as goal

abbrev pub invariant-loop-l : goal.invariant-loop-l
invariant-loop-l l = (length l.r ≡ 6) × HoldsV l.n (λ j. sup l.l (λ a. meant_v l.row a ⊗ meant l.b a j)) l.r
