-- `marks::levels::pack` meets its contract. The panels passed are packed. Assumes nothing.
use mathlib.Core.Path.{refl, sym, ◌∙◌}
use native.Mathlib.Omega.{arith}
use Rattle.tables.specs.Held.{meant_v}
use Rattle.preparing.proofs.LevelLaws.{packing_none, packing_more, packing_less}
use Rattle.preparing.proofs.levels.pack.Goals as goal
use Rattle.preparing.proofs.levels.pack.Goals.{then-present, else-present}

pub loop-i-init : goal.loop-i-init
loop-i-init c = packing_none _ _

pub loop-i-preserved : goal.loop-i-preserved
unfolding meant_v
loop-i-preserved c =
    let l = c.loop-i in
    let p = c.present.ensures in
    elim c.if-present.branch [
      | then-present w ↦ rw (w.bytes-is, w.at-is, w.f-is) (packing_more _ _ (omega arith) (sym p ∙ w.if-present.true) refl l.invariant)
      | else-present w ↦ rw (w.bytes-is, w.at-is, w.f-is) (packing_less _ _ (sym p ∙ w.if-present.false) l.invariant)
    ]
