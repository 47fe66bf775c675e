-- `rays::thin` meets its contract: the first `k` rays have been looked at, and `left` of them stay.
use native.Mathlib.Omega.{arith}
use Rattle.tables.proofs.Loops.{says_true, says_false}
use Rattle.rays.proofs.RayLaws.{thinning_out, thinning_keep, thinning_end}
use Rattle.rays.proofs.thin.Goals as goal
use Rattle.rays.proofs.thin.Goals.{then-not-under, else-not-under}

pub loop-k-preserved : goal.loop-k-preserved
loop-k-preserved c = elim c.if-not-under.branch [
  | then-not-under w ↦ rw (w.set-is, w.left-is) (thinning_keep c.loop-k.invariant (omega (arith, c.requires))
      (says_false c.under.result w.if-not-under.true c.under.ensures))
  | else-not-under w ↦ rw (w.set-is, w.left-is) (thinning_out c.loop-k.invariant
      (says_true c.under.result w.if-not-under.false c.under.ensures))
]

pub returns : goal.returns
returns c = thinning_end c.loop-k.invariant (omega arith)
