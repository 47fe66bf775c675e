-- `walk::remembering::word_at` meets its contract. The loop's invariant: the word is taken when its place has been passed.
use mathlib.Core.Path.{◌≡◌}
use lib.ListN.{get_or}
use Rattle.walk.proofs.PassLaws.{passed}
use Rattle.walk.proofs.remembering.word_at.Given as goal

abbrev pub invariant-loop-k : goal.invariant-loop-k
invariant-loop-k l = (l.r ≡ passed l.j 0 (get_or l.at l.j 0) l.k)
