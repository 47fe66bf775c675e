-- `gather::gather` meets its contract: the lines of the first `t` triggers' rays have been considered.
use mathlib.Core.Path.{◌≡◌}
use lib.ListN.{length}
use Rattle.rays.specs.Rays.{places}
use Rattle.gather.specs.Gathering.{Turned}
use Rattle.gather.proofs.gather.Given as goal

abbrev pub invariant-loop-t : goal.invariant-loop-t
invariant-loop-t l = (length l.set.rows ≡ places) × (length l.next.rows ≡ places) ×
    Turned l.sources.marks.now l.sources.star.now l.sources.lag.now l.sources.needs.now l.last.at l.t l.buffer.len l.buffer.rows
