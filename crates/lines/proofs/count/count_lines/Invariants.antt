-- `lines::count::count_lines` meets its contract: `count` lines are not above `last`.
use mathlib.Core.Path.{◌≡◌}
use Prim.Native.Nat.{◌-◌}
use lib.ListN.{length}
use Rattle.buffer.specs.Buffer.{room}
use Rattle.cue.specs.Sizes.{most_lines}
use Rattle.lines.proofs.TurnLaws.{Counted}
use Rattle.lines.proofs.count.count_lines.Given as goal

abbrev pub invariant-loop-buffer : goal.invariant-loop-buffer
invariant-loop-buffer l = (length l.buffer.rows ≡ room) × Counted l.sources.marks.now l.sources.star.now l.sources.lag.now l.sources.needs.now l.last.at l.count

abbrev pub decreases-loop-buffer : goal.decreases-loop-buffer
decreases-loop-buffer l = most_lines - l.count
