-- `extremes::lateness` meets its contract. The places passed are written. Assumes nothing.
use mathlib.Core.Path.{◌≡◌}
use Rattle.maxplus.specs.Entry.{◌⊗◌, inv}
use Rattle.words.specs.Words.{entry, Close}
use Rattle.sheet.specs.Sizes.{late_size}
use Rattle.tables.specs.Held.{meant_v}
use Rattle.tables.proofs.Loops.{Filled}
use Rattle.extremes.proofs.lateness.Given as goal

abbrev pub invariant-loop-j : goal.invariant-loop-j
invariant-loop-j l =
    Filled (λ j v. (entry v ≡ meant_v l.line.at j ⊗ inv (meant_v l.due j)) × Close late_size v) 0 l.r l.j
