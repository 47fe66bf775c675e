-- `tables::largest::largest` meets its contract. Assumes nothing.
use Rattle.std.proofs.Common.{rules}
use Rattle.tables.specs.Held.{meant_v}
use Rattle.tables.proofs.largest.largest.Goals as goal

pub returns : goal.returns
unfolding meant_v
returns c = c.largest_of.ensures (meant_v c.args.x) (λ j h v p. search rules)
