-- `tables::largest::overdue` meets its contract. Assumes nothing.
use Rattle.std.proofs.Common.{rules}
use Rattle.maxplus.specs.Entry.{◌⊗◌, inv}
use Rattle.cue.specs.Cue.{overdue}
use Rattle.tables.specs.Held.{meant_v}
use Rattle.tables.proofs.largest.overdue.Goals as goal

pub returns : goal.returns
unfolding overdue meant_v
returns c = c.largest_of.ensures (λ j. meant_v c.args.x j ⊗ inv (meant_v c.args.due j)) (λ j h v p. search rules)
