-- `hiring::by_sevens` meets its contract. Assumes nothing.
use Rattle.std.proofs.Common.{◌∙◌}
use Rattle.hiring.proofs.DrawLaws.{seventh, not_seventh}
use Rattle.hiring.proofs.by_sevens.Goals as goal

pub returns-then-u-eq0 : goal.returns-then-u-eq0
returns-then-u-eq0 c = seventh _ c.if-u-eq0.true

pub returns-else-u-eq0 : goal.returns-else-u-eq0
returns-else-u-eq0 c = c.number.ensures ∙ not_seventh _ c.if-u-eq0.false
