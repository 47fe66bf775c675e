-- `words::of_signed` meets its contract, by the word: absent, or a number.
use mathlib.Core.Path.{sym, ◌∙◌}
use Rattle.cue.proofs.StandingLaws.{of_signed_absent, of_signed_number}
use Rattle.words.proofs.Laws.{entry_zero}
use Rattle.words.proofs.SignedLaws.{of_signed_word}
use Rattle.words.proofs.of_signed.Goals as goal

pub returns-then-a-eq-ABSENT-clause-is : goal.returns-then-a-eq-ABSENT-clause-is
returns-then-a-eq-ABSENT-clause-is c = entry_zero ∙ sym (of_signed_absent _ c.ranges.a c.if-a-eq-ABSENT.true)

pub returns-clause-is : goal.returns-clause-is
returns-clause-is c =
    (of_signed_word _ _ _ c.ranges.a c.if-a-eq-ABSENT.false c.from.ensures c.of_number.ensures).0 ∙
    sym (of_signed_number _ c.ranges.a c.if-a-eq-ABSENT.false)

pub returns-clause-close : goal.returns-clause-close
returns-clause-close c = (of_signed_word _ _ _ c.ranges.a c.if-a-eq-ABSENT.false c.from.ensures c.of_number.ensures).1
