-- `moments::in_time` meets its contract. The triggers passed land in time. Assumes nothing.
use Prim.Native.Nat.{ℕ, ◌<◌}
use Rattle.maxplus.specs.Entry.{◌≼◌, ◌⊗◌, unit}
use Rattle.tables.specs.Held.{meant_v}
use Rattle.moments.proofs.in_time.Given as goal

abbrev pub invariant-loop-j : goal.invariant-loop-j
invariant-loop-j l = (b : ℕ) → b < l.j → meant_v l.overruns b ⊗ meant_v l.x.at b ≼ unit
