-- `candidates::drawing::first_ray` meets its contract. The places passed are written.
use Rattle.maxplus.specs.Entry.{◌⊗◌, inv}
use Rattle.words.specs.Words.{entry}
use Rattle.sheet.specs.Sizes.{starred_size}
use Rattle.tables.specs.Held.{meant}
use Rattle.tables.specs.Lines.{WordsOf}
use Rattle.candidates.proofs.drawing.first_ray.Given as goal

abbrev pub invariant-loop-i : goal.invariant-loop-i
invariant-loop-i l = WordsOf l.i starred_size (λ i. meant l.star i l.t ⊗ inv (entry l.pull)) l.r
