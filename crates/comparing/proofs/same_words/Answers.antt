-- `comparing::same_words` meets its contract: the two ranges hold the same words. Assumes nothing.
use Rattle.comparing.proofs.SameLaws.{ranges_say}
use Rattle.comparing.proofs.same_words.Goals as goal

pub returns : goal.returns
returns c = ranges_say c.args.left.now c.args.right.now c.args.from c.args.at _ c.eq.ensures
