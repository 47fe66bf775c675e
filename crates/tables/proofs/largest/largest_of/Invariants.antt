-- `tables::largest::largest_of` meets its contract. Best is the largest of the places passed. Assumes nothing.
use mathlib.Core.Path.{◌≡◌}
use Prim.Native.Nat.{ℕ, ◌<◌}
use Rattle.maxplus.specs.Entry.{E}
use Rattle.maxplus.specs.Tables.{sup}
use Rattle.words.specs.Words.{entry}
use Rattle.tables.proofs.largest.largest_of.Given as goal

abbrev pub invariant-loop-j : goal.invariant-loop-j
invariant-loop-j g l = (e : ℕ → E) → ((j : ℕ) → j < l.n → (v : ℕ) → goal.F-post g l.f j v → entry v ≡ e j) → entry l.best ≡ sup l.j e
