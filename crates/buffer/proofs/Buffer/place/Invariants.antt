-- `buffer::Buffer::place` meets its contract: the place is from `low` to `high`, and the middle line tells which half it is in.
use Prim.Native.Nat.{◌-◌}
use Rattle.buffer.proofs.BufferLaws.{Between}
use Rattle.buffer.proofs.Buffer.place.Given as goal

abbrev pub invariant-loop-low : goal.invariant-loop-low
invariant-loop-low l = Between l.self.rows l.self.len l.line.at l.low l.high

abbrev pub decreases-loop-low : goal.decreases-loop-low
decreases-loop-low l = l.high - l.low
