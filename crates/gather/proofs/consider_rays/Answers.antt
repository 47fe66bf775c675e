-- `gather::consider_rays` meets its contract: the lines of the first `k` rays have been considered.
use native.Mathlib.Omega.{arith}
use Rattle.gather.proofs.SpreadLaws.{drawn_to_none, drawn_to_more, drawn_to_end}
use Rattle.gather.proofs.consider_rays.Goals as goal

pub loop-k-init : goal.loop-k-init
loop-k-init c = drawn_to_none

pub consider-requires : goal.consider-requires
consider-requires c =
    let (P, needs, C, p, q, g) = c.requires.0 in
    let d = c.normal-line.ensures in
    ((P, needs, _, p, c.loop-k.invariant.gathered P needs C p q g), c.requires.1, d.count, d.words.sized, d.words.close)

pub loop-k-preserved : goal.loop-k-preserved
loop-k-preserved c =
    drawn_to_more c.loop-k.invariant c.loop-k-test.true (omega (arith, c.requires.2, c.requires.3)) c.normal-line.ensures c.consider.ensures

pub returns : goal.returns
returns c =
    λ P needs C p q g.
    (drawn_to_end c.loop-k.invariant c.loop-k-test.false).gathered P needs C p q g
