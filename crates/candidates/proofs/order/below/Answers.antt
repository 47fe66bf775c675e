-- `candidates::order::below` meets its contract.
use native.Mathlib.Omega.{arith}
use Rattle.candidates.proofs.OrderLaws.{less_says}
use Rattle.candidates.proofs.order.below.Goals as goal

pub returns : goal.returns
returns c = less_says _ _ _ (omega arith) (omega arith) c.lt.ensures
