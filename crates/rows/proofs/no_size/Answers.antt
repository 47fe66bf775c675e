-- `rows::no_size` meets its contract. Assumes nothing.
use mathlib.Core.Path.{sym, ◌∙◌}
use Rattle.rows.proofs.FaultLaws.{size_none, size_some}
use Rattle.rows.proofs.no_size.Goals as goal

pub returns-then-size-eq0 : goal.returns-then-size-eq0
returns-then-size-eq0 c = size_none _ _ (sym c.present.ensures ∙ c.if-not-present.false) c.above-size.ensures c.if-size-eq0.true

pub returns : goal.returns
returns c = size_some _ _ (sym c.present.ensures ∙ c.if-not-present.false) c.above-size.ensures c.if-size-eq0.false
