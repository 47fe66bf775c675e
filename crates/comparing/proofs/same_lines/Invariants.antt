-- `comparing::same_lines` meets its contract: the lines passed are the same. Assumes nothing.
use mathlib.Core.Path.{◌≡◌}
use Rattle.cue.specs.Written.{uncapped}
use Rattle.comparing.proofs.same_lines.Given as goal

abbrev pub invariant-loop-k : goal.invariant-loop-k
invariant-loop-k l = uncapped l.wide l.k l.left ≡ uncapped l.broad l.k l.right
