-- `answer_words::answers::put_room` meets its contract. Assumes nothing.
use Rattle.answer_words.proofs.Storing.{back, room_stored, no_room}
use borrow.Author.Rules.{rules}
use Rattle.answer_words.proofs.answers.put_room.Goals as goal

pub returns-then-number-eq9 : goal.returns-then-number-eq9
returns-then-number-eq9 c =
    let a = c.args in
    room_stored a.lent.now a.at a.behind a.number a.count a.wide c.if-number-eq9.true
    (back (search rules) c.count_word.ensures) c.put.ensures
    (back (search rules) c.count_word-then-number-eq9.ensures) c.put-then-number-eq9.ensures

pub returns-else-number-eq9 : goal.returns-else-number-eq9
returns-else-number-eq9 c = let a = c.args in no_room a.lent.now a.at a.behind a.number a.count a.wide c.if-number-eq9.false
