-- `reading::empty_row` meets its contract. The loop's invariant: each row passed has an entry. Assumes nothing.
use Prim.Native.Nat.{ℕ, ◌<◌}
use mathlib.Core.List.{[]}
use mathlib.Core.Bool.{false}
use lib.ListN.{get_or}
use Rattle.reading.specs.Inner.{EmptyWords}
use Rattle.reading.proofs.empty_row.Given as goal

abbrev pub invariant-loop-row : goal.invariant-loop-row
invariant-loop-row l = (k : ℕ) → k < l.row-index → EmptyWords (get_or l.rows k []) false
