-- `answer_words::answers::put_panels` meets its contract: after i turns the words of i panels are stored. Assumes nothing.
use mathlib.Core.Path.{◌≡◌}
use lib.Seq.{sets}
use Rattle.answer_words.specs.Words.{pairs}
use Rattle.answer_words.proofs.answers.put_panels.Given as goal

abbrev pub invariant-loop-i : goal.invariant-loop-i
invariant-loop-i l = l.lent ≡ sets l.initial.lent 4 (pairs l.i l.kept l.counts)
