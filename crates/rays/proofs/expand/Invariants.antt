-- `rays::expand` meets its contract: the rays up to place `k` have had their turn. The first always has room, so `k` goes further.
use mathlib.Core.Path.{◌≡◌}
use Rattle.rays.specs.Rays.{Expanded}
use Rattle.rays.proofs.expand.Given as goal

abbrev pub invariant-loop-k : goal.invariant-loop-k
invariant-loop-k l =
    (l.k ≡ l.from → l.next.len ≡ 0) ×
    Expanded l.set.rows l.from l.k l.panel.mask l.panel.wants.now l.panel.star.now l.panel.count l.next.rows l.next.len
