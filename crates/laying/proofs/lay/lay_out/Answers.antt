-- `laying::lay::lay_out` meets its contract: without a spare trigger all lines are laid out as they stand, else the first `i` of them are.
use mathlib.Core.Path.{refl}
use native.Mathlib.Omega.{arith}
use Rattle.laying.proofs.LayLaws.{laid_out_none, laid_out_more, laid_out_all, laid_out_before}
use Rattle.laying.proofs.lay.lay_out.Goals as goal

pub returns-then-p-eq0 : goal.returns-then-p-eq0
returns-then-p-eq0 c = laid_out_before c.if-p-eq0.true

pub loop-i-init : goal.loop-i-init
loop-i-init c = laid_out_none

pub loop-i-preserved : goal.loop-i-preserved
loop-i-preserved c = laid_out_more refl c.loop-i.invariant c.lay_line.auto.space c.lay_line.ensures

pub returns : goal.returns
returns c = laid_out_all c.args.count (omega arith) c.loop-i.invariant
