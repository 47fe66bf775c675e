-- `rays::expand` meets its contract: the rays up to place `k` have had their turn. The first always has room, so `k` goes further.
use native.Mathlib.Omega.{arith}
use Rattle.rays.proofs.RayLaws.{expanded_more, expanded_end}
use Rattle.rays.proofs.expand.Goals as goal

pub loop-k-preserved : goal.loop-k-preserved
loop-k-preserved c =
    let (f, e) = c.loop-k.invariant in (
      λ q. omega (arith, c.loop-k.auto.k),
      expanded_more c.if-next-panel-gt-PLACES.false c.loop-k.auto.k e c.branch-next.ensures,
    )

pub returns : goal.returns
returns c = (omega arith, omega arith, expanded_end (omega arith) c.loop-k.invariant.1)
