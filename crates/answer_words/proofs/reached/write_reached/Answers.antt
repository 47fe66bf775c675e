-- `answer_words::reached::write_reached` meets its contract. Assumes nothing.
use Rattle.answer_words.proofs.Storing.{unreached_words}
use Rattle.answer_words.proofs.reached.write_reached.Goals as goal

pub returns-in-Ok-clause-words : goal.returns-in-Ok-clause-words
returns-in-Ok-clause-words c = rw c.in-Ok.is c.write_found.ensures.words

pub returns-in-Err-clause-words : goal.returns-in-Err-clause-words
returns-in-Err-clause-words c = unreached_words _ c.in-Err.is c.put_needed.ensures
