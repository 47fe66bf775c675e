-- `comparing::refused` meets its contract. Assumes nothing.
use mathlib.Core.Path.{refl, ap, sym, ◌∙◌}
use Rattle.comparing.proofs.SameLaws.{refused_by, wide_known, refused_as, room_there, room_short}
use Rattle.comparing.proofs.refused.Goals as goal

pub nonzero_div-words : goal.nonzero_div-words
nonzero_div-words c = wide_known _ _ refl c.plan.ensures.answer (rw c.in-Err-NoRoom.field-0-is at c.in-Err-NoRoom.is)

pub returns-in-Ok : goal.returns-in-Ok
returns-in-Ok c = refused_as _ _ refl c.plan.ensures.answer (sym (ap (refused_by c.args.words) c.in-Ok.is))

pub returns-in-Err-Refused : goal.returns-in-Err-Refused
returns-in-Err-Refused c = refused_as _ _ refl c.plan.ensures.answer (sym (ap (refused_by c.args.words) (rw c.in-Err-Refused.field-0-is at c.in-Err-Refused.is)))

pub returns-then-needed-words : goal.returns-then-needed-words
returns-then-needed-words c =
    refused_as _ _ refl c.plan.ensures.answer
    (room_there c.args.words _ c.if-needed-words.true ∙ sym (ap (refused_by c.args.words) (rw c.in-Err-NoRoom.field-0-is at c.in-Err-NoRoom.is)))

pub returns-else-needed-words : goal.returns-else-needed-words
returns-else-needed-words c =
    refused_as _ _ refl c.plan.ensures.answer
    (room_short c.args.words _ c.if-needed-words.false ∙ sym (ap (refused_by c.args.words) (rw c.in-Err-NoRoom.field-0-is at c.in-Err-NoRoom.is)))
