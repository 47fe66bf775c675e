-- `text::lines::put_panels` meets its contract. The loop's invariant: the lines of the first `i` panels are put. Assumes nothing.
use mathlib.Core.List.{[], ◌∷◌}
use lib.ListN.{get_or}
use Rattle.maxplus.specs.Finite.{each}
use Rattle.writing.specs.Texts.{panel_texts}
use Rattle.writing.proofs.TextLaws.{Grown}
use Rattle.text.proofs.lines.put_panels.Given as goal

abbrev pub invariant-loop-i : goal.invariant-loop-i
invariant-loop-i l = Grown (λ k. panel_texts (each k (λ i. (get_or l.kept i 0, get_or l.counts i 0) ∷ []))) 13 l.initial.w l.w l.i
