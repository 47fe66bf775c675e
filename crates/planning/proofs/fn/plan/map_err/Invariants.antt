-- What `planning::plan` makes of a list with more lines than there is space for. Assumes nothing.
use mathlib.Core.Path.{◌≡◌}
use Rattle.planning.specs.declared.Unplanned.TheVariants.{NoRoom}
use Rattle.planning.proofs.fn.plan.map_err.Given as goal

abbrev pub ensures : goal.ensures
ensures l r = r ≡ NoRoom (record { count = l.needed.count; width = l.words })
