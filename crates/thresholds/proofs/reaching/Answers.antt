-- `thresholds::reaching` meets its contract. The bits of the triggers passed; the next bit is larger. Assumes nothing.
use mathlib.Core.Path.{◌∙◌}
use native.Mathlib.Omega.{arith}
use Rattle.tables.specs.Held.{meant, meant_v}
use Rattle.thresholds.specs.Thresholds.{reaches}
use Rattle.thresholds.proofs.ThresholdLaws.{reaches_yes, reaches_no}
use Rattle.trigger_sets.proofs.ByteLaws.{byte_none, byte_set, byte_clear, bit_here, byte_room}
use Rattle.thresholds.proofs.reaching.Goals.{then-plus-through, else-plus-through}
use Rattle.thresholds.proofs.reaching.Goals as goal

pub loop-j-init : goal.loop-j-init
loop-j-init c = byte_none _

pub overflow_add-byte : goal.overflow_add-byte
overflow_add-byte c = let b = byte_room _ c.loop-j.j _ c.loop-j.invariant (omega arith) in omega arith

pub loop-j-preserved : goal.loop-j-preserved
unfolding reaches meant meant_v
loop-j-preserved c =
    let l = c.loop-j in
    let p = c.plus.ensures in
    elim c.if-plus-through.branch [
      | then-plus-through w ↦
          w.byte-is ∙ byte_set _ l.j _ _ l.invariant (bit_here l.j (omega arith)) (reaches_yes _ _ _ p w.if-plus-through.true)
      | else-plus-through w ↦ w.byte-is ∙ byte_clear _ l.j _ l.invariant (reaches_no _ _ _ p (omega arith))
    ]
