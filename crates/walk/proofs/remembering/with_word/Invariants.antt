-- `walk::remembering::with_word` meets its contract. The loop's invariant: the word is written when its place has been passed.
use mathlib.Core.Path.{◌≡◌}
use lib.ListN.{set}
use Rattle.walk.proofs.PassLaws.{passed}
use Rattle.walk.proofs.remembering.with_word.Given as goal

abbrev pub invariant-loop-k : goal.invariant-loop-k
invariant-loop-k l = (l.r ≡ passed l.j l.initial.r (set l.initial.r l.j l.x) l.k)
