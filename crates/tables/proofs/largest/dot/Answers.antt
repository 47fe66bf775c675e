-- `tables::largest::dot` meets its contract. Assumes nothing.
use Rattle.std.proofs.Common.{rules}
use Rattle.maxplus.specs.Entry.{◌⊗◌}
use Rattle.maxplus.specs.Tables.{mv}
use Rattle.tables.specs.Held.{meant, meant_v}
use Rattle.tables.proofs.largest.dot.Goals as goal

pub returns : goal.returns
unfolding mv meant meant_v
returns c = c.largest_of.ensures (λ j. meant c.args.table.now c.args.i j ⊗ meant_v c.args.x j) (λ j h v p. search rules)
