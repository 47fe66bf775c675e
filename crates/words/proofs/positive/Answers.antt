-- `words::positive` meets its contract. Assumes nothing.
use Rattle.words.proofs.Laws.{word_pos}
use Rattle.words.proofs.positive.Goals as goal

pub returns : goal.returns
returns c = word_pos _
