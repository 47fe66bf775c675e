-- `rays::raise` meets its contract: the first `s` triggers have been looked at.
use Rattle.tables.specs.Held.{meant_v}
use Rattle.rays.proofs.RayLaws.{has_yes, has_no, raised_none, raised_skip, raised_join}
use Rattle.rays.proofs.raise.Goals as goal
use Rattle.rays.proofs.raise.Goals.{then-has, else-has}

pub loop-s-init : goal.loop-s-init
loop-s-init c = raised_none c.requires.2

pub loop-s-preserved : goal.loop-s-preserved
unfolding meant_v
loop-s-preserved c =
    let h = c.has.ensures in let i = c.loop-s.invariant in
    elim c.if-has.branch [
      | then-has w ↦ rw w.set-is (raised_join i (has_yes h w.if-has.true) w.raised.ensures.words w.join.ensures)
      | else-has w ↦ rw w.set-is (raised_skip i (has_no h w.if-has.false))
    ]
