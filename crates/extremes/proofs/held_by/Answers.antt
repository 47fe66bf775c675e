-- `extremes::held_by` meets its contract. Assumes nothing.
use Rattle.tables.specs.Held.{meant_v}
use Rattle.trigger_sets.proofs.SetLaws.{set_with, set_none}
use Rattle.extremes.proofs.ClosureLaws.{flag_present, flag_absent}
use Rattle.extremes.proofs.held_by.Goals as goal

pub returns-then-not-present : goal.returns-then-not-present
unfolding meant_v
returns-then-not-present c = set_none (λ j h u. flag_absent _ _ c.present.ensures c.if-not-present.true u.0)

pub returns : goal.returns
unfolding meant_v
returns c = set_with (flag_present _ _ c.present.ensures c.if-not-present.false) c.places.ensures
