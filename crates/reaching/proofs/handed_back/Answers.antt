-- `reaching::handed_back` meets its contract: the first `j` triggers have been looked at, and `k` of them are in use.
use mathlib.Core.Path.{sym, ◌∙◌}
use native.Mathlib.Omega.{arith}
use Rattle.timing.proofs.LimitLaws.{read_again}
use Rattle.reaching.proofs.HandLaws.{handing_none, handing_used, handing_spare}
use borrow.Author.Rules.{rules}
use Rattle.reaching.proofs.handed_back.Goals as goal
use Rattle.reaching.proofs.handed_back.Goals.{then-has, else-has}

pub loop-j-init : goal.loop-j-init
loop-j-init c = let (s, n, u) = c.requires in (omega (arith, u.few, u.triggers_are), handing_none _ _ _)

pub loop-j-preserved : goal.loop-j-preserved
loop-j-preserved c =
    let e = sym c.has.ensures in (
      c.loop-j.invariant.0,
      elim c.if-has.branch [
        | then-has w ↦ rw (w.at-is, w.k-is) (handing_used _ _ _ (omega arith) c.loop-j.invariant.1 (e ∙ w.if-has.true) (read_again _ (search rules)))
        | else-has w ↦ rw (w.at-is, w.k-is) (handing_spare _ _ _ (omega arith) c.loop-j.invariant.1 (e ∙ w.if-has.false) (read_again _ (search rules)))
      ],
    )
