-- `gather::carry` meets its contract: the set has been carried on to `level`.
use mathlib.Core.Path.{◌≡◌}
use lib.ListN.{length}
use Rattle.rays.specs.Rays.{places}
use Rattle.gather.specs.Gathering.{CarriedTo}
use Rattle.gather.proofs.carry.Given as goal

abbrev pub invariant-loop-level : goal.invariant-loop-level
invariant-loop-level l = (length l.next.rows ≡ places) ×
    CarriedTo l.sources.marks.now l.sources.star.now l.sources.needs.now l.initial.set.rows l.set.rows l.level l.set.len
