-- `text::lines::put_times` meets its contract. The loop's invariant: the first `j` times are put. Assumes nothing.
use mathlib.Core.List.{[], ◌∷◌}
use lib.IntN.{pos}
use lib.ListN.{get_or}
use Rattle.maxplus.specs.Finite.{each}
use Rattle.writing.specs.Numerals.{numeral}
use Rattle.writing.specs.Texts.{joined}
use Rattle.writing.proofs.TextLaws.{Grown}
use Rattle.text.proofs.lines.put_times.Given as goal

abbrev pub invariant-loop-j : goal.invariant-loop-j
invariant-loop-j l = Grown (λ k. joined (each k (λ i. numeral (get_or l.times i (pos 0)) ∷ []))) 21 l.initial.w l.w l.j
