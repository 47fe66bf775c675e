-- `tables::joined` meets its contract. The places passed are written. Assumes nothing.
use mathlib.Core.Path.{◌≡◌}
use Rattle.maxplus.specs.Entry.{◌⊕◌}
use Rattle.words.specs.Words.{entry}
use Rattle.tables.specs.Held.{meant}
use Rattle.tables.proofs.Loops.{Rows, Cells}
use Rattle.tables.proofs.joined.Given as goal

abbrev pub invariant-loop-j : goal.invariant-loop-j
invariant-loop-j l = Cells (λ i j v. entry v ≡ meant l.a i j ⊕ meant l.b i j) l.n l.r l.i l.j

abbrev pub invariant-loop-i : goal.invariant-loop-i
invariant-loop-i l = Rows (λ i j v. entry v ≡ meant l.a i j ⊕ meant l.b i j) l.n l.r l.i
