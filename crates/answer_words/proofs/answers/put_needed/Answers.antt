-- `answer_words::answers::put_needed` meets its contract. Assumes nothing.
use Rattle.answer_words.proofs.Storing.{needed_stored, none_needed}
use Rattle.answer_words.proofs.answers.put_needed.Goals as goal

pub returns-in-NoRoom : goal.returns-in-NoRoom
returns-in-NoRoom c = needed_stored c.args.lent.now c.args.at c.args.behind c.in-NoRoom.is c.put_room.ensures

pub returns-in_default : goal.returns-in_default
returns-in_default c = none_needed c.args.lent.now c.args.at c.args.behind c.in_default.not-NoRoom
