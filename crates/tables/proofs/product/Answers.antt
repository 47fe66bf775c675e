-- `tables::product` meets its contract. The rows passed are written. Assumes nothing.
use native.Mathlib.Omega.{arith}
use Rattle.maxplus.specs.Tables.{mm}
use Rattle.tables.specs.Held.{meant, meant_v}
use Rattle.tables.proofs.Loops.{filled_more}
use Rattle.tables.proofs.product.Goals as goal

pub loop-i-preserved : goal.loop-i-preserved
unfolding mm meant meant_v
loop-i-preserved c = filled_more _ _ _ _ _ (omega arith) c.loop-i.invariant c.row_product.ensures

pub returns : goal.returns
unfolding meant meant_v
returns c = record { at = λ i j h k. (c.loop-i.invariant.done i (omega arith)).at j k }
