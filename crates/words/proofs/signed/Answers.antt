-- `words::signed` meets its contract, by the word: absent, or a number.
use mir.Facts.{to_z-of_z, sfits_widen}
use Rattle.words.proofs.SignedLaws.{signed_none, signed_fits, signed_is}
use Rattle.words.proofs.signed.Goals as goal

pub returns-then-a-eq0 : goal.returns-then-a-eq0
returns-then-a-eq0 c = signed_none c.args.a c.if-a-eq0.true

pub overflow_cast-result : goal.overflow_cast-result
overflow_cast-result c = let f = signed_fits _ _ c.requires c.number.ensures in rw (to_z-of_z (sfits_widen {w' = mir.Syntax.w64} tt f)) f

pub returns : goal.returns
returns c = signed_is _ _ c.requires c.number.ensures
