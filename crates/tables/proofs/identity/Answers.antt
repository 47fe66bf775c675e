-- `tables::identity` meets its contract. The places passed are written. Assumes nothing.
use native.Mathlib.Omega.{arith}
use Rattle.tables.specs.Held.{meant}
use Rattle.tables.proofs.identity.Goals as goal

pub returns : goal.returns
unfolding meant
returns c = record { at = λ i j p q. c.loop-i.invariant.done i j (omega arith) q }
