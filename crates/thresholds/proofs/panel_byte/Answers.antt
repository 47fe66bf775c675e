-- `thresholds::panel_byte` meets its contract. Assumes nothing.
use mathlib.Core.Path.{sym, ◌∙◌}
use native.Mathlib.Omega.{arith}
use Rattle.words.proofs.Laws.{close_more, close_minus}
use Rattle.thresholds.proofs.ThresholdLaws.{floor_there, floor_absent}
use Rattle.thresholds.proofs.panel_byte.Goals as goal

pub reaching-requires : goal.reaching-requires
reaching-requires c = (c.requires.0, c.requires.1, c.requires.2, close_more (omega arith) (close_minus _ _ _ c.minus.ensures c.requires.3 c.requires.4))

pub returns-then-present : goal.returns-then-present
returns-then-present c =
    let p = c.present.ensures in
    floor_there _ _ _ _ _ _ _ _ (sym p ∙ c.if-present.true) c.minus.ensures c.reaching.ensures

pub returns-else-present : goal.returns-else-present
returns-else-present c = floor_absent _ _ _ _ _ _ (sym c.present.ensures ∙ c.if-present.false)
