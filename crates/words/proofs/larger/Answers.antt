-- `words::larger` meets its contract. Assumes nothing.
use Rattle.words.proofs.Laws.{larger_is}
use Rattle.words.proofs.larger.Goals as goal

pub returns : goal.returns
returns c = cc (larger_is c.args.a c.args.b)
