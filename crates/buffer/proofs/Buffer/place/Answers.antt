-- `buffer::Buffer::place` meets its contract: the place is from `low` to `high`, and the middle line tells which half it is in.
use Prim.Native.Nat.{◌+◌, ◌-◌, ◌/◌}
use native.Mathlib.Omega.{arith}
use Rattle.buffer.proofs.BufferLaws.{between_up, between_down}
use Rattle.buffer.proofs.Buffer.place.Goals as goal

pub loop-low-preserved-then-below : goal.loop-low-preserved-then-below
loop-low-preserved-then-below c =
    let l = c.loop-low in
    between_up c.args.self.now.rows c.args.self.now.len c.args.line.at l.low l.high (l.low + (l.high - l.low) / 2) c.requires.1 l.invariant
    (omega arith) (omega arith) (rw c.if-below.true at c.below.ensures)

pub loop-low-preserved : goal.loop-low-preserved
loop-low-preserved c =
    let l = c.loop-low in
    between_down c.args.self.now.rows c.args.self.now.len c.args.line.at l.low l.high (l.low + (l.high - l.low) / 2) c.requires.1 l.invariant
    (omega arith) (omega arith) (rw c.if-below.false at c.below.ensures)
