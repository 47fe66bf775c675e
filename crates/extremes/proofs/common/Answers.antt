-- `extremes::common` meets its contract. The closures of the triggers passed are met. Assumes nothing.
use native.Mathlib.Omega.{arith}
use Rattle.tables.specs.Held.{meant_v}
use Rattle.trigger_sets.proofs.SetLaws.{every_none, every_more, every_less, every_stop}
use Rattle.extremes.proofs.ClosureLaws.{flag_present, flag_absent}
use Rattle.extremes.proofs.common.Goals as goal
use Rattle.extremes.proofs.common.Goals.{then-present+else-all-eq0, else-present}

pub loop-k-init : goal.loop-k-init
loop-k-init c = every_none _ _

pub returns-then-all-eq0 : goal.returns-then-all-eq0
unfolding meant_v
returns-then-all-eq0 c =
    every_stop _ _ _ _ _ (omega arith)
    (every_more _ _ _ _ _ c.loop-k.invariant c.closed-all.ensures (flag_present _ _ c.present.ensures c.if-present.true))
    c.if-all-eq0.true

pub loop-k-preserved : goal.loop-k-preserved
unfolding meant_v
loop-k-preserved c =
    let p = c.present.ensures in
    elim c.if-present.branch [
      | then-present+else-all-eq0 w ↦ rw w.all-is (every_more _ _ _ _ _ c.loop-k.invariant w.closed-all.ensures (flag_present _ _ p w.if-present.true))
      | else-present w ↦ rw w.all-is (every_less _ _ _ _ c.loop-k.invariant (flag_absent _ _ p w.if-present.false))
    ]
