-- `extremes::sums::places` meets its contract. The places passed that have the word are marked.
-- Assumes nothing.
use mathlib.Core.Path.{◌≡◌}
use Prim.Native.Nat.{◌<◌}
use Rattle.maxplus.specs.Entry.{◌⊗◌}
use Rattle.words.specs.Words.{entry}
use Rattle.tables.specs.Held.{meant, meant_v}
use Rattle.trigger_sets.specs.Sets.{SetOf}
use Rattle.extremes.proofs.sums.places.Given as goal

abbrev pub invariant-loop-j : goal.invariant-loop-j
invariant-loop-j l =
    SetOf (λ k. (k < l.j) × (meant l.table l.i k ⊗ meant_v l.line.at k ≡ entry l.word)) l.set
