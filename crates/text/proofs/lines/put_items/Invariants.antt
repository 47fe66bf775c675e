-- `text::lines::put_items` meets its contract. The loop's invariant: the first `j` items are put. Assumes nothing.
use Rattle.trigger_sets.specs.Sets.{bit}
use Rattle.cue.specs.Standing.{line_at}
use Rattle.writing.proofs.TextLaws.{Grown, first_items}
use Rattle.text.proofs.lines.put_items.Given as goal

abbrev pub invariant-loop-j : goal.invariant-loop-j
invariant-loop-j l = Grown (first_items l.n (bit l.spares) (line_at l.n l.line 0)) 12 l.initial.w l.w l.j
