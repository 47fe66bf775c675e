-- `answer_words::compared::put_extents` meets its contract. Assumes nothing.
use Rattle.answer_words.proofs.Storing.{back}
use Rattle.answer_words.proofs.Storing.{extents_stored}
use borrow.Author.Rules.{rules}
use Rattle.answer_words.proofs.compared.put_extents.Goals as goal

pub returns : goal.returns
returns c =
    extents_stored c.args.lent.now c.args.a c.args.b (back (search rules) c.count_word.ensures) c.put.ensures
    (back (search rules) c.count_word-2.ensures) c.put-2.ensures (back (search rules) c.count_word-3.ensures)
    c.put-3.ensures (back (search rules) c.count_word-4.ensures) c.put-4.ensures
