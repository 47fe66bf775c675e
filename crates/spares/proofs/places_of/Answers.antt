-- `spares::places_of` meets its contract. The triggers passed are counted, placed and in one of the two sets. Assumes nothing.
use native.Mathlib.Omega.{arith}
use Rattle.trigger_sets.proofs.ByteLaws.{byte_room}
use Rattle.spares.proofs.PlaceLaws.{found_none, found_few, found_used, found_spare, found_all}
use Rattle.spares.proofs.places_of.Goals.{then-in_use, else-in_use}
use Rattle.spares.proofs.places_of.Goals as goal

pub loop-j-init : goal.loop-j-init
loop-j-init c = found_none _

pub bounds-at-count : goal.bounds-at-count
bounds-at-count c = omega (arith, found_few _ c.loop-j.invariant)

pub overflow_add-count : goal.overflow_add-count
overflow_add-count c = omega (arith, found_few _ c.loop-j.invariant)

pub overflow_add-used : goal.overflow_add-used
overflow_add-used c = let b = byte_room _ c.loop-j.j _ c.loop-j.invariant.used_is (omega arith) in omega arith

pub overflow_add-spares : goal.overflow_add-spares
overflow_add-spares c = let b = byte_room _ c.loop-j.j _ c.loop-j.invariant.spares_are (omega arith) in omega arith

pub loop-j-preserved : goal.loop-j-preserved
loop-j-preserved c =
    let f = c.loop-j.invariant in
    let p = c.in_use.ensures in
    elim c.if-in_use.branch [
      | then-in_use w ↦ rw (w.at-is, w.count-is, w.used-is, w.spares-is) (found_used _ f (omega arith) p w.if-in_use.true)
      | else-in_use w ↦ rw (w.at-is, w.count-is, w.used-is, w.spares-is) (found_spare _ f (omega arith) p w.if-in_use.false)
    ]

pub returns : goal.returns
returns c = λ s inside agree. found_all c.requires.1 (omega arith) c.loop-j.invariant inside agree
