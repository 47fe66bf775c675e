-- `keeping::laid_sets` meets its contract. The sets passed are laid out. Assumes nothing.
use mathlib.Core.Path.{◌≡◌}
use mathlib.Core.Bool.{Bool, false}
use Prim.Native.Nat.{ℕ}
use lib.ListN.{get_or}
use Rattle.maxplus.specs.Finite.{byte_of}
use Rattle.maxplus.specs.Packing.{filled}
use Rattle.trigger_sets.specs.Sets.{bit}
use Rattle.spares.specs.Using.{PlacesOf}
use Rattle.tables.proofs.Loops.{Filled}
use Rattle.keeping.proofs.laid_sets.Given as goal

abbrev pub invariant-loop-i : goal.invariant-loop-i
invariant-loop-i l =
    (s : ℕ → Bool) (n : ℕ) → PlacesOf s n l.p → Filled (λ i v. v ≡ byte_of n (filled s (λ j. false) (bit (get_or l.sets i 0)))) 0 l.r l.i
