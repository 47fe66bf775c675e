-- `lines::write::write_lines` meets its contract: the lines that are not above `last` are written, `at` words of them.
use mathlib.Core.Path.{◌≡◌}
use Prim.Native.Nat.{◌-◌}
use lib.ListN.{length}
use Rattle.buffer.specs.Buffer.{room}
use Rattle.lines.proofs.TurnLaws.{Writing}
use Rattle.lines.proofs.write.write_lines.Given as goal

abbrev pub invariant-loop-buffer : goal.invariant-loop-buffer
invariant-loop-buffer l = (length l.buffer.rows ≡ room) × Writing l.sources.marks.now l.sources.star.now l.sources.lag.now l.sources.needs.now l.last.at l.initial.out l.out l.at

abbrev pub decreases-loop-buffer : goal.decreases-loop-buffer
decreases-loop-buffer l = length l.initial.out - l.at
