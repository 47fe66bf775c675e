-- `extremes::sums::reached` meets its contract. The places passed that have the word are marked and none is
-- beyond the word. Assumes nothing.
use mathlib.Core.Path.{◌≡◌}
use Prim.Native.Nat.{ℕ, ◌<◌}
use Rattle.maxplus.specs.Entry.{◌≼◌, ◌⊗◌}
use Rattle.words.specs.Words.{entry}
use Rattle.tables.specs.Held.{meant, meant_v}
use Rattle.trigger_sets.specs.Sets.{SetOf}
use Rattle.extremes.proofs.sums.reached.Given as goal

abbrev pub invariant-loop-j : goal.invariant-loop-j
invariant-loop-j l =
    SetOf (λ k. (k < l.j) × (meant l.table l.i k ⊗ meant_v l.line.at k ≡ entry l.word)) l.set ×
    ((k : ℕ) → k < l.j → meant l.table l.i k ⊗ meant_v l.line.at k ≼ entry l.word)
