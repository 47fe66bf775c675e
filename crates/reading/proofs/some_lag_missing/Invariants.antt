-- `reading::some_lag_missing` meets its contract. The loop's invariant: none of the triggers passed is without a lag and not spare. Assumes nothing.
use Prim.Native.Nat.{ℕ, ◌<◌}
use mathlib.Core.Path.{◌≡◌}
use mathlib.Core.Bool.{false}
use Rattle.reading.specs.Inner.{lag_missing_at}
use Rattle.reading.proofs.some_lag_missing.Given as goal

abbrev pub invariant-loop-j : goal.invariant-loop-j
invariant-loop-j l = (k : ℕ) → k < l.j → lag_missing_at l.sheet k ≡ false
