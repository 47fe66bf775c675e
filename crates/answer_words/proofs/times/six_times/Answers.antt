-- `answer_words::times::six_times` meets its contract. Assumes nothing.
use Rattle.answer_words.proofs.Storing.{back}
use Rattle.answer_words.proofs.Storing.{six_listed}
use borrow.Author.Rules.{rules}
use Rattle.answer_words.proofs.times.six_times.Goals as goal

pub returns : goal.returns
returns c =
    λ l.
    six_listed c.args.lent.now (back (search rules) c.time.ensures) (back (search rules) c.time-2.ensures)
    (back (search rules) c.time-3.ensures) (back (search rules) c.time-4.ensures)
    (back (search rules) c.time-5.ensures) (back (search rules) c.time-6.ensures)
