-- `tables::differences::rest` meets its contract. Assumes nothing.
use Rattle.std.proofs.Common.{rules}
use Rattle.tables.specs.Held.{meant_v}
use Rattle.tables.proofs.differences.rest.Goals as goal

pub returns : goal.returns
unfolding meant_v
returns c = record { at = λ j h. let e = c.each.ensures j h in search rules }
