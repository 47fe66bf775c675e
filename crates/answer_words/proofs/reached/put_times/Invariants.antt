-- `answer_words::reached::put_times` meets its contract: after j turns j components are stored. Assumes nothing.
use mathlib.Core.Path.{◌≡◌}
use mathlib.Core.List.{[], ◌∷◌}
use lib.Seq.{sets}
use Rattle.maxplus.specs.Finite.{each}
use Rattle.timing.specs.Times.{component}
use Rattle.answer_words.proofs.reached.put_times.Given as goal

abbrev pub invariant-loop-j : goal.invariant-loop-j
invariant-loop-j l = l.lent ≡ sets l.initial.lent 1 (each l.j (λ i. component l.at i ∷ []))
