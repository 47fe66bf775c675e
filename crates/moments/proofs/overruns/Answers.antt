-- `moments::overruns` meets its contract. The overruns of the triggers passed are written. Assumes nothing.
use mathlib.Core.Path.{◌∙◌}
use native.Mathlib.Omega.{arith}
use Rattle.tables.specs.Held.{meant_v}
use Rattle.tables.proofs.Loops.{filled_more}
use Rattle.moments.proofs.MomentLaws.{column_overdue}
use Rattle.moments.proofs.overruns.Goals as goal

pub loop-j-preserved : goal.loop-j-preserved
loop-j-preserved c =
    filled_more _ 0 _ c.loop-j.j _ (omega arith) c.loop-j.invariant
    (c.overdue.ensures ∙ column_overdue c.args.last _ _ c.loop-j.j (omega arith) c.column-reach.ensures)

pub returns : goal.returns
unfolding meant_v
returns c = record { at = λ j h. c.loop-j.invariant.done j (omega arith) }
