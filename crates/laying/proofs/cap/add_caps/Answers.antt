-- `laying::cap::add_caps` meets its contract: the first `k` lines are left to be moved.
use native.Mathlib.Omega.{arith}
use Rattle.laying.proofs.CapLaws.{capping_none, capping_more, capping_all, next_cappable}
use Rattle.laying.proofs.cap.add_caps.Goals as goal

pub loop-k-init : goal.loop-k-init
loop-k-init c = capping_none

pub add_cap-requires : goal.add_cap-requires
add_cap-requires c =
    let (caps, L, u) = c.requires.1 in
    (omega (arith, c.loop-k.invariant.few, c.loop-k.invariant.size, c.requires.0), (_, _, next_cappable c.requires.0 (omega arith) c.loop-k.invariant u))

pub loop-k-preserved : goal.loop-k-preserved
loop-k-preserved c = capping_more c.requires.0 (omega arith) c.loop-k.invariant c.add_cap.auto.space c.add_cap.ensures

pub returns : goal.returns
returns c = capping_all (omega arith) c.loop-k.invariant
