-- `tables::row_product` meets its contract. The largest over the ways passed. Assumes nothing.
use mathlib.Core.Path.{refl}
use Rattle.tables.specs.Held.{meant, meant_v}
use Rattle.tables.proofs.SquareLaws.{row_none, row_more}
use Rattle.tables.proofs.row_product.Goals as goal

pub loop-l-init : goal.loop-l-init
loop-l-init c = (refl, row_none _)

pub loop-l-preserved : goal.loop-l-preserved
unfolding meant meant_v
loop-l-preserved c = (c.raise.ensures.size, row_more _ c.loop-l.l c.loop-l.invariant.1 c.raise.ensures (λ j h. refl))
