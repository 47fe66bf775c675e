-- `extremes::reaching` meets its contract. Assumes nothing.
use native.Mathlib.Omega.{arith}
use Rattle.extremes.proofs.ClosureLaws.{flag_present, reaching_some, reaching_none}
use Rattle.extremes.proofs.reaching.Goals as goal

pub returns-then-set-eq0 : goal.returns-then-set-eq0
returns-then-set-eq0 c = reaching_none _ c.plus.ensures c.reached-set.ensures (omega arith) c.if-set-eq0.true

pub returns-else-set-eq0 : goal.returns-else-set-eq0
returns-else-set-eq0 c =
    reaching_some _ c.plus.ensures c.reached-set.ensures
    (flag_present _ _ c.present.ensures c.if-not-present.false) c.if-set-eq0.false
