-- `words::of_number` meets its contract. Assumes nothing.
use mir.Facts.{to_z-of_z}
use Rattle.words.proofs.SignedLaws.{negative_word}
use Rattle.words.proofs.of_number.Goals as goal

pub returns-then-x-lt0 : goal.returns-then-x-lt0
returns-then-x-lt0 c =
    let e = to_z-of_z c.ranges.x in
    negative_word c.args.x _ _ (rw e at c.if-x-lt0.true) (rw e at c.unsigned_abs.ensures.value) c.negative.ensures
