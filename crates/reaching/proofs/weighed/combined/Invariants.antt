-- `reaching::weighed::combined` meets its contract: the largest over the lines passed. Assumes nothing.
use mathlib.Core.Path.{◌≡◌}
use lib.ListN.{length}
use Rattle.maxplus.specs.Tables.{sup}
use Rattle.tables.specs.Held.{meant_v, HoldsV}
use Rattle.reaching.proofs.WeighedLaws.{weighed}
use Rattle.reaching.proofs.weighed.combined.Given as goal

abbrev pub invariant-loop-k : goal.invariant-loop-k
invariant-loop-k l = (length l.most ≡ 6) × HoldsV l.n (λ j. sup l.k (λ k. weighed l.n (meant_v l.within) l.space k j)) l.most
