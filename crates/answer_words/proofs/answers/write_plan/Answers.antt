-- `answer_words::answers::write_plan` meets its contract. Assumes nothing.
use Rattle.answer_words.proofs.Storing.{back, planned_words, unplanned_words}
use borrow.Author.Rules.{rules}
use Rattle.answer_words.proofs.answers.write_plan.Goals as goal

pub returns-in-Ok-clause-words : goal.returns-in-Ok-clause-words
returns-in-Ok-clause-words c =
    planned_words _ c.in-Ok.is (search rules) c.put.ensures (back (search rules) c.from.ensures) c.put-in-Ok.ensures
    (back (search rules) c.from-in-Ok.ensures) c.put-in-Ok-2.ensures (back (search rules) c.count_word.ensures) c.put-in-Ok-3.ensures
    (back (search rules) c.from-in-Ok-2.ensures) c.put-in-Ok-4.ensures (back (search rules) c.count_word-in-Ok.ensures) c.put-in-Ok-5.ensures

pub returns-in-Err-clause-words : goal.returns-in-Err-clause-words
returns-in-Err-clause-words c = unplanned_words _ c.in-Err.is c.put_needed.ensures
