-- `tally::packed` meets its contract: the word speaks of the levels from `k` on.
use lib.ListN.{get_or}
use Rattle.tally.specs.Counting.{Speaks}
use Rattle.tally.proofs.packed.Given as goal

abbrev pub invariant-loop-k : goal.invariant-loop-k
invariant-loop-k l = Speaks (λ i. get_or l.kept i 0) l.k l.left
