-- `words::present` meets its contract. Assumes nothing.
use Rattle.words.proofs.Laws.{word_present}
use Rattle.words.proofs.present.Goals as goal

pub returns : goal.returns
returns c = word_present _
