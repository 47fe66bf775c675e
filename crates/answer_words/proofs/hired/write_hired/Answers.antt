-- `answer_words::hired::write_hired` meets its contract. Assumes nothing.
use Rattle.answer_words.proofs.Storing.{back, hired_words, unhired_words}
use borrow.Author.Rules.{rules}
use Rattle.answer_words.proofs.hired.write_hired.Goals as goal

pub returns-in-Ok-clause-words : goal.returns-in-Ok-clause-words
returns-in-Ok-clause-words c =
    hired_words _ c.in-Ok.is (back (search rules) c.count_word.ensures) c.put.ensures (back (search rules) c.from.ensures) c.put-in-Ok.ensures

pub returns-in-Err-clause-words : goal.returns-in-Err-clause-words
returns-in-Err-clause-words c = unhired_words _ c.in-Err.is
