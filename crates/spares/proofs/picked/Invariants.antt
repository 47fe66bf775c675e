-- `spares::picked` meets its contract. The places passed are written. Assumes nothing.
use Rattle.spares.proofs.PickedLaws.{Picking}
use Rattle.spares.proofs.picked.Given as goal

abbrev pub invariant-loop-k : goal.invariant-loop-k
invariant-loop-k l = Picking l.p l.row l.r l.k
