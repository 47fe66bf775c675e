-- `reading::empty_column` meets its contract. The loop's invariant: no row passed has an entry there. Assumes nothing.
use Prim.Native.Nat.{ℕ, ◌<◌}
use mathlib.Core.Path.{◌≡◌}
use mathlib.Core.Bool.{false}
use Rattle.maxplus.specs.Entry.{present?}
use Rattle.reading.specs.Inner.{meant}
use Rattle.reading.proofs.empty_column.Given as goal

abbrev pub invariant-loop-row : goal.invariant-loop-row
invariant-loop-row l = (i : ℕ) → i < l.row-index → present? (meant l.rows i l.j) ≡ false
