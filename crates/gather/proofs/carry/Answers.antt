-- `gather::carry` meets its contract: the set has been carried on to `level`.
use native.Mathlib.Omega.{arith}
use Rattle.candidates.proofs.DrawableLaws.{levels_few, stars_close, needs_close}
use Rattle.gather.proofs.SpreadLaws.{level_wants, carried_none, carried_more, carried_end}
use Rattle.gather.proofs.carry.Goals as goal

pub bounds-sources-level : goal.bounds-sources-level
bounds-sources-level c = omega (arith, c.loop-level-test.true, levels_few c.requires.0.2)

pub offset_bounds-sources-level : goal.offset_bounds-sources-level
offset_bounds-sources-level c = omega (arith, c.loop-level-test.true, levels_few c.requires.0.2)

pub bounds-sources-level-in-loop-level : goal.bounds-sources-level-in-loop-level
bounds-sources-level-in-loop-level c = omega (arith, c.loop-level-test.true, levels_few c.requires.0.2)

pub loop-level-init : goal.loop-level-init
loop-level-init c = (c.requires.2, carried_none c.requires.1 c.requires.3)

pub add_panel-requires : goal.add_panel-requires
add_panel-requires c =
    let (y, v) = c.loop-level.invariant in
    let p = c.requires.0.2 in
    (p.some, p.few, v.few, v.size, y, v.words, stars_close p, level_wants c.loop-level-test.true (needs_close p))

pub loop-level-preserved : goal.loop-level-preserved
loop-level-preserved c =
    let (y, e) = c.if-not-add_panel.ensures in
    (y, carried_more c.loop-level-test.true e c.loop-level.invariant.1)

pub returns-then-not-add_panel : goal.returns-then-not-add_panel
returns-then-not-add_panel c =
    let (y, (e, f)) = c.if-not-add_panel.ensures in
    (y, rw (e, f) c.loop-level.invariant.1)

pub returns : goal.returns
returns c = (c.loop-level.invariant.0, carried_end (omega arith) c.loop-level.invariant.1)
