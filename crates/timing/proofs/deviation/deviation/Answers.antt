-- `timing::deviation::deviation` meets its contract. Assumes nothing.
use mathlib.Core.Path.{ap₂, ◌∙◌}
use native.Mathlib.Omega.{arith}
use Rattle.maxplus.specs.Entry.{◌⊗◌}
use Rattle.words.proofs.Laws.{close_more}
use Rattle.tables.proofs.LargestLaws.{close_overdue, close_shortfall}
use Rattle.timing.specs.Deviation.{deviation_of}
use Rattle.timing.proofs.deviation.deviation.Goals as goal

pub plus-requires : goal.plus-requires
plus-requires c =
    let (s, x) = c.requires in (
      close_more (omega arith) (close_overdue _ s.dues x c.overdue-late.ensures),
      close_more (omega arith) (close_shortfall _ s.lags s.floors x c.shortfall-short.ensures),
    )

pub returns : goal.returns
unfolding deviation_of
returns c = c.plus.ensures ∙ ap₂ ◌⊗◌ c.overdue-late.ensures c.shortfall-short.ensures
