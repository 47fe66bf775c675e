-- `rows::first_fault` meets its contract. Loop invariants: the kinds passed are no fault of the line, and the items passed do not have the fault
-- of this kind. Assumes nothing.
use Prim.Native.Nat.{ℕ, ◌<◌}
use mathlib.Core.Path.{◌≡◌}
use mathlib.Core.Bool.{false}
use lib.ListN.{get_or}
use Rattle.std.specs.Prelude.{None}
use Rattle.words.specs.Words.{entry}
use Rattle.rows.specs.Inner.{has_fault}
use Rattle.rows.proofs.FaultLaws.{Asked}
use Rattle.rows.proofs.first_fault.Given as goal

abbrev pub invariant-loop-word : goal.invariant-loop-word
invariant-loop-word l = ((j : ℕ) → j < l.word-index → has_fault l.fault (entry (get_or l.row j 0)) ≡ false) × (l.met ≡ None)

abbrev pub invariant-kinds : goal.invariant-kinds
invariant-kinds l = Asked l.fault-items l.row l.count l.fault-index × (l.met ≡ None)
