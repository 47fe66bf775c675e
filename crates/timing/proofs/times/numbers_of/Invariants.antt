-- `timing::times::numbers_of` meets its contract. The numbers of the words passed are written, 0 past them. Assumes nothing.
use mathlib.Core.Path.{◌≡◌}
use mathlib.Core.Bool.{cond}
use Prim.Native.Nat.{ℕ}
use lib.Dec.{ltb}
use lib.IntN.{ℤ, pos}
use Rattle.cue.specs.Cue.{timing}
use Rattle.cue.specs.Sizes.{six}
use Rattle.tables.specs.Held.{HoldsV}
use Rattle.timing.proofs.times.numbers_of.Given as goal

abbrev pub invariant-loop-j : goal.invariant-loop-j
invariant-loop-j l = ((X : ℕ → ℤ) → HoldsV l.n (timing X) l.x.at → l.at ≡ six (λ i. cond (ltb i l.j) (X i) (pos 0)))
