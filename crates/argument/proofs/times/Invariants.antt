-- `argument::times` meets its contract. The loop's invariant: the first `count` numbers are read, and what is left from `place` on gives
-- the others. Assumes nothing.
use Prim.Native.Nat.{◌-◌}
use lib.ListN.{length}
use Rattle.argument.proofs.TimesLaws.{ReadTo}
use Rattle.argument.proofs.times.Given as goal

abbrev pub invariant-loop-item : goal.invariant-loop-item
invariant-loop-item l = ReadTo l.s l.at l.count l.place

abbrev pub decreases-loop-item : goal.decreases-loop-item
decreases-loop-item l = length l.s - l.place
