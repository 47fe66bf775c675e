-- `answer_words::reached::write_found` meets its contract. Assumes nothing.
use mathlib.Core.Path.{refl}
use Rattle.answer_words.proofs.Storing.{back, reached_words}
use borrow.Author.Rules.{rules}
use Rattle.answer_words.proofs.reached.write_found.Goals as goal

pub returns-clause-words : goal.returns-clause-words
returns-clause-words c =
    reached_words _ refl (back (search rules) c.count_word.ensures) c.put.ensures c.put_times.ensures
    (back (search rules) c.count_word-2.ensures) c.put-2.ensures
