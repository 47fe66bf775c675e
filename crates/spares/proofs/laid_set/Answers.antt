-- `spares::laid_set` meets its contract. The bits of the triggers passed; the next bit is larger. Assumes nothing.
use mathlib.Core.Path.{sym, ◌∙◌}
use native.Mathlib.Omega.{arith}
use Rattle.trigger_sets.proofs.ByteLaws.{byte_room}
use Rattle.spares.proofs.LaidLaws.{laying_none, laying_few, laying_in, laying_out, laying_spare, laying_all}
use Rattle.spares.proofs.laid_set.Goals.{then-has, else-has, then-has-2, else-has-2}
use Rattle.spares.proofs.laid_set.Goals as goal

pub loop-j-init : goal.loop-j-init
loop-j-init c = (let h = c.requires.2 in let a = h.few in let b = h.triggers_are in omega arith, laying_none _ _)

pub has-requires-then-has : goal.has-requires-then-has
has-requires-then-has c = omega (arith, laying_few _ _ c.loop-j.invariant.1)

pub overflow_add-byte : goal.overflow_add-byte
overflow_add-byte c = let b = byte_room _ c.loop-j.j _ c.loop-j.invariant.1.byte_is (omega arith) in omega arith

pub overflow_add-k : goal.overflow_add-k
overflow_add-k c = omega (arith, laying_few _ _ c.loop-j.invariant.1)

pub loop-j-preserved : goal.loop-j-preserved
loop-j-preserved c =
    let f = c.loop-j.invariant.1 in
    let p = sym c.has.ensures in (
      c.loop-j.invariant.0,
      elim c.if-has.branch [
        | then-has w ↦
            let y = p ∙ w.if-has.true in
            let q = sym w.has-then-has.ensures in
            rw (w.byte-is, w.k-is) (elim w.if-has-2.branch [
              | then-has-2 v ↦ rw v.byte-is (laying_in _ _ f (omega arith) y (q ∙ v.if-has-2.true))
              | else-has-2 v ↦ rw v.byte-is (laying_out _ _ f y (q ∙ v.if-has-2.false))
            ])
        | else-has w ↦ rw (w.byte-is, w.k-is) (laying_spare _ _ f (p ∙ w.if-has.false))
      ],
    )

pub returns : goal.returns
returns c = λ s n h. laying_all h (omega arith) c.loop-j.invariant.1
