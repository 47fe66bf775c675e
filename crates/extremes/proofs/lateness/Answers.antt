-- `extremes::lateness` meets its contract. The places passed are written. Assumes nothing.
use native.Mathlib.Omega.{arith}
use Rattle.words.proofs.Laws.{close_minus}
use Rattle.tables.specs.Held.{meant_v}
use Rattle.tables.proofs.Loops.{filled_more}
use Rattle.extremes.proofs.lateness.Goals as goal

pub loop-j-preserved : goal.loop-j-preserved
unfolding meant_v
loop-j-preserved c =
    let e = c.minus.ensures in
    filled_more _ 0 _ _ _ (omega arith) c.loop-j.invariant
    (e, close_minus _ _ _ e (c.requires.1.at _ (omega arith)) (c.requires.2.at _ (omega arith)))

pub returns-clause-is : goal.returns-clause-is
unfolding meant_v
returns-clause-is c =
    let r = c.loop-j.invariant in
    record { at = λ j h. (r.done j (omega arith)).0 }
