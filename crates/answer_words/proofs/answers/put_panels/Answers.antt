-- `answer_words::answers::put_panels` meets its contract: after i turns the words of i panels are stored. Assumes nothing.
use mathlib.Core.Path.{refl}
use borrow.Author.Rules.{rules}
use Rattle.maxplus.specs.Finite.{each}
use Rattle.answer_words.specs.Words.{pairs}
use Rattle.answer_words.proofs.Storing.{back, panel_more}
use Rattle.answer_words.proofs.answers.put_panels.Goals as goal

pub loop-i-init : goal.loop-i-init
unfolding pairs each
loop-i-init c = refl

pub loop-i-preserved : goal.loop-i-preserved
loop-i-preserved c =
    panel_more _ c.loop-i.i _ _ c.loop-i.invariant (back (search rules) c.from.ensures) c.put.ensures
    (back (search rules) c.from-in-loop-i.ensures) c.put-in-loop-i.ensures
