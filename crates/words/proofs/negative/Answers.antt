-- `words::negative` meets its contract. Assumes nothing.
use Rattle.words.proofs.Laws.{word_neg}
use Rattle.words.proofs.negative.Goals as goal

pub returns : goal.returns
returns c = word_neg _
