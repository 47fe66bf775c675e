-- `tally::left_at` meets its contract: six bits at the level's place.
use Rattle.tally.proofs.WordLaws.{digit_at}
use Rattle.tally.proofs.left_at.Goals as goal

pub returns : goal.returns
returns c = digit_at c.args.left c.args.i
