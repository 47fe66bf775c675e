-- What inner functions ask. Nothing public is stated here.
use Rattle.std.specs.Prelude.{◌≤◌}
use Rattle.cue.specs.Sizes.{most_lines}
use Rattle.comparing.specs.Comparing.{Comparison, answer, unlike, first_refused, second_refused}
use Rattle.planning.specs.declared.Extent.{Extent}

-- the counts of an answer are no more than there can be lines, and so are the words of a line
abbrev pub Few : Extent → Type 0
Few a = (a.count ≤ most_lines) × (a.width ≤ most_lines)

abbrev pub Counted : Comparison → Type 0
Counted (answer s a b) = Few a × Few b
Counted (unlike a b) = Few a × Few b
Counted (first_refused k a) = Few a
Counted (second_refused k b) = Few b
