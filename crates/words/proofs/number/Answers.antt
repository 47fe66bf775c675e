-- `words::number` meets its contract. Assumes nothing.
use Rattle.words.proofs.Laws.{number_is}
use Rattle.words.proofs.number.Goals as goal

pub returns : goal.returns
returns c = number_is _ c.requires.0 c.requires.1
