-- `timing::order::keeps` meets its contract. The rules passed, row by row, are kept. Assumes nothing.
use Prim.Native.Nat.{ℕ, ◌<◌}
use Rattle.maxplus.specs.Entry.{◌≼◌, ◌⊗◌}
use Rattle.tables.specs.Held.{meant, meant_v}
use Rattle.timing.proofs.order.keeps.Given as goal

abbrev pub invariant-loop-j : goal.invariant-loop-j
invariant-loop-j l = ((b : ℕ) → b < l.j → meant l.order l.i b ⊗ meant_v l.x.at b ≼ meant_v l.x.at l.i)

abbrev pub invariant-loop-i : goal.invariant-loop-i
invariant-loop-i l = ((a : ℕ) → a < l.i → (b : ℕ) → b < l.n → meant l.order a b ⊗ meant_v l.x.at b ≼ meant_v l.x.at a)
