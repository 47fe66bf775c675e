-- `lines::write::write_held` meets its contract: the first `k` lines are laid.
use mathlib.Core.Path.{◌≡◌}
use lib.ListN.{length}
use Rattle.cue.specs.Written.{list_words}
use Rattle.buffer.specs.Buffer.{held}
use Rattle.buffer.specs.Space.{laid}
use Rattle.lines.proofs.write.write_held.Given as goal

abbrev pub invariant-loop-k : goal.invariant-loop-k
invariant-loop-k l =
    (length l.out ≡ length l.initial.out) × (l.out ≡ laid l.initial.out l.at (list_words l.n (held l.n l.k l.buffer.rows)))
