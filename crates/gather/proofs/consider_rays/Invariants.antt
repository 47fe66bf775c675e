-- `gather::consider_rays` meets its contract: the lines of the first `k` rays have been considered.
use Rattle.gather.proofs.SpreadLaws.{DrawnTo}
use Rattle.gather.proofs.consider_rays.Given as goal

abbrev pub invariant-loop-k : goal.invariant-loop-k
invariant-loop-k l = DrawnTo l.sources.marks.now l.sources.star.now l.sources.lag.now l.last.at l.set.rows l.set.len l.known l.initial.buffer.len l.initial.buffer.rows l.k
    l.buffer.len l.buffer.rows
