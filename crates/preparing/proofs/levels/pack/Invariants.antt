-- `marks::levels::pack` meets its contract. The panels passed are packed. Assumes nothing.
use Rattle.tables.specs.Held.{meant_v}
use Rattle.preparing.proofs.LevelLaws.{Packing}
use Rattle.preparing.proofs.levels.pack.Given as goal

abbrev pub invariant-loop-i : goal.invariant-loop-i
invariant-loop-i l = Packing l.kept (meant_v l.floor) l.bytes l.at l.f l.i
