-- `tables::joined` meets its contract. The places passed are written. Assumes nothing.
use native.Mathlib.Omega.{arith}
use Rattle.tables.specs.Held.{meant}
use Rattle.tables.proofs.Loops.{cells_more}
use Rattle.tables.proofs.joined.Goals as goal

pub loop-j-preserved : goal.loop-j-preserved
unfolding meant
loop-j-preserved c = cells_more _ _ _ _ _ _ (omega arith) (omega arith) c.loop-j.invariant c.larger.ensures

pub returns : goal.returns
unfolding meant
returns c = let r = c.loop-i.invariant in (r.square, record { at = λ i j p q. r.done i j (omega arith) q })
