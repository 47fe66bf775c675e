-- `tally::tally` meets its contract: from the first level on it is the whole walk.
use Rattle.std.proofs.Common.{arith}
use Rattle.tally.proofs.CountLaws.{remembered_start, counted_all}
use Rattle.tally.proofs.tally.Goals as goal

pub below-requires : goal.below-requires
below-requires c = (record { few = c.requires.0; remembered = remembered_start c.requires.0 }, omega arith)

pub returns : goal.returns
returns c = counted_all c.args.kept.now c.requires.0 c.packed.ensures c.below.ensures
