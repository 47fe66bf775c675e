-- `extremes::common` meets its contract. The closures of the triggers passed are met. Assumes nothing.
use Prim.Native.Nat.{ℕ, ◌<◌}
use lib.ListN.{get_or}
use Rattle.maxplus.specs.Entry.{Present}
use Rattle.tables.specs.Held.{meant_v}
use Rattle.trigger_sets.specs.Sets.{SetOf}
use Rattle.candidates.specs.Rays.{Closed}
use Rattle.extremes.proofs.common.Given as goal

abbrev pub invariant-loop-k : goal.invariant-loop-k
invariant-loop-k l =
    SetOf (λ j. (i : ℕ) → i < l.k → Present (meant_v l.line.at i) → Closed l.tight l.panels l.front (get_or l.held i 0) j) l.all
