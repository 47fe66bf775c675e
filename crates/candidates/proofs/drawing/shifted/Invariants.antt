-- `candidates::drawing::shifted` meets its contract. The places passed are written. Assumes nothing.
use Rattle.maxplus.specs.Entry.{◌⊗◌, inv}
use Rattle.words.specs.Words.{entry}
use Rattle.sheet.specs.Sizes.{shifted_size}
use Rattle.tables.specs.Held.{meant_v}
use Rattle.tables.specs.Lines.{WordsOf}
use Rattle.candidates.proofs.drawing.shifted.Given as goal

abbrev pub invariant-loop-j : goal.invariant-loop-j
invariant-loop-j l = WordsOf l.j shifted_size (λ j. meant_v l.x.at j ⊗ inv (entry l.top)) l.r
