-- `reaching::weighed::combined` meets its contract: the largest over the lines passed. Assumes nothing.
use mathlib.Core.Path.{◌≡◌, refl}
use native.Mathlib.Omega.{arith}
use Rattle.tables.proofs.SquareLaws.{row_none}
use Rattle.reaching.proofs.WeighedLaws.{weighed_more, weighed_all}
use Rattle.reaching.proofs.weighed.combined.Goals as goal

pub loop-k-init : goal.loop-k-init
loop-k-init c = (refl, row_none _)

pub loop-k-preserved : goal.loop-k-preserved
loop-k-preserved c = (
  c.raise.ensures.size,
  weighed_more _ _ _ c.loop-k.k _ c.loop-k.invariant.1 c.line_at-line.ensures.words.is c.weight.ensures.is c.raise.ensures,
)

pub returns-clause-made : goal.returns-clause-made
returns-clause-made c =
    let l = c.loop-k in
    let e : l.k ≡ c.args.count = omega arith in
    weighed_all _ _ _ _ (rw e at l.invariant.1)
