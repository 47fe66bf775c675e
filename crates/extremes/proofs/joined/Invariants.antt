-- `extremes::joined` meets its contract. The sets passed are joined. Assumes nothing.
use mathlib.Core.Path.{◌≡◌}
use Prim.Native.Nat.{ℕ, ◌<◌}
use lib.ListN.{get_or}
use Rattle.trigger_sets.specs.Sets.{Has, SetOf}
use Rattle.extremes.proofs.joined.Given as goal

abbrev pub invariant-loop-l : goal.invariant-loop-l
invariant-loop-l l = SetOf (λ j. (k : ℕ) × (k < l.l) × ((get_or l.late k 0 ≡ l.most) × Has (get_or l.held k 0) j)) l.set
