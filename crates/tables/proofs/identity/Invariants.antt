-- `tables::identity` meets its contract. The places passed are written. Assumes nothing.
use mathlib.Core.Path.{◌≡◌}
use Rattle.maxplus.specs.Tables.{idm}
use Rattle.words.specs.Words.{entry}
use Rattle.tables.proofs.Loops.{Rows, Cells}
use Rattle.tables.proofs.identity.Given as goal

abbrev pub invariant-loop-j : goal.invariant-loop-j
invariant-loop-j l = Cells (λ i j v. entry v ≡ idm i j) 6 l.r l.i l.j

abbrev pub invariant-loop-i : goal.invariant-loop-i
invariant-loop-i l = Rows (λ i j v. entry v ≡ idm i j) 6 l.r l.i
