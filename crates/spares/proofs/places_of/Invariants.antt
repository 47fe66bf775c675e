-- `spares::places_of` meets its contract. The triggers passed are counted, placed and in one of the two sets. Assumes nothing.
use Rattle.tables.specs.Held.{meant}
use Rattle.spares.specs.Using.{tied}
use Rattle.spares.proofs.PlaceLaws.{Found}
use Rattle.spares.proofs.places_of.Given as goal

abbrev pub invariant-loop-j : goal.invariant-loop-j
invariant-loop-j l = Found (tied l.m l.n (meant l.order) (meant l.lag)) l.at l.count l.used l.spares l.j
