-- `order::closed` meets its contract: the table holds the ways through the first `k` triggers, and no way round them gains.
use native.Mathlib.Omega.{arith}
use Rattle.tables.specs.Held.{meant}
use Rattle.order.proofs.OrderLaws.{held_none, held_more, held_gain, held_all, held_far, unit_joined, at_most_unit, above_unit}
use Rattle.order.proofs.closed.Goals as goal

pub loop-k-init : goal.loop-k-init
loop-k-init c =
    let (z, h) = c.joined.ensures in
    held_none c.requires.1 z (unit_joined c.args.order.now c.requires.0 c.identity-unit.ensures h)

pub returns-then-zero-around : goal.returns-then-zero-around
unfolding meant
returns-then-zero-around c = held_gain c.loop-k-test.true (above_unit _ _ c.positive-zero.ensures c.if-zero-around.true) c.loop-k.invariant

pub pass-requires : goal.pass-requires
pass-requires c =
    let w = c.loop-k.invariant in
    (c.requires.0, c.loop-k-test.true, w.square, held_far c.requires.0 w)

pub loop-k-preserved : goal.loop-k-preserved
unfolding meant
loop-k-preserved c = held_more c.loop-k-test.true (at_most_unit _ _ c.positive-zero.ensures (omega (arith, c.if-zero-around.false))) c.loop-k.invariant c.pass.ensures

pub returns : goal.returns
returns c = held_all c.loop-k-test.false c.loop-k.invariant
