-- `answer_words::reached::put_times` meets its contract: after j turns j components are stored. Assumes nothing.
use mathlib.Core.Path.{refl}
use borrow.Author.Rules.{rules}
use Rattle.maxplus.specs.Finite.{each}
use Rattle.answer_words.proofs.Storing.{time_more}
use Rattle.answer_words.proofs.reached.put_times.Goals as goal

pub loop-j-init : goal.loop-j-init
unfolding each
loop-j-init c = refl

pub loop-j-preserved : goal.loop-j-preserved
loop-j-preserved c = time_more c.args.lent.now c.args.at c.loop-j.j c.loop-j.invariant (search rules) c.put.ensures
