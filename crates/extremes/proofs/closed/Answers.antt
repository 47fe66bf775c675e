-- `extremes::closed` meets its contract. Assumes nothing.
use native.Mathlib.Omega.{arith}
use Rattle.extremes.proofs.ClosureLaws.{closed_fires}
use Rattle.extremes.proofs.closed.Goals as goal

pub returns-then-fires : goal.returns-then-fires
returns-then-fires c =
    let a = c.args in
    closed_fires a.tight _ _ _ (omega arith) (omega arith) (rw c.if-fires.true at c.fires.ensures)
