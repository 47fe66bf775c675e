-- `tables::raise` meets its contract: the places passed have been raised. Assumes nothing.
use mathlib.Core.Path.{sym, ◌∙◌}
use native.Mathlib.Omega.{arith}
use Rattle.words.specs.Words.{entry}
use Rattle.tables.specs.Held.{meant_v}
use Rattle.tables.proofs.SquareLaws.{raised_none, raising_more}
use Rattle.tables.proofs.raise.Goals as goal

pub returns-then-not-present : goal.returns-then-not-present
returns-then-not-present c = raised_none (entry c.args.shift) _ (sym c.present.ensures ∙ c.if-not-present.true) c.requires.3

pub loop-j-preserved : goal.loop-j-preserved
unfolding meant_v
loop-j-preserved c = raising_more c.plus-sum.result c.larger.result (omega arith) c.loop-j.invariant (unfold meant_v in c.plus-sum.ensures)
    c.larger.ensures
