-- `reading::empty` meets its contract. The loop's invariant: no word passed is an entry. Assumes nothing.
use Prim.Native.Nat.{ℕ, ◌<◌}
use mathlib.Core.Path.{◌≡◌}
use mathlib.Core.Bool.{false}
use lib.ListN.{get_or}
use Rattle.maxplus.specs.Entry.{present?}
use Rattle.words.specs.Words.{entry}
use Rattle.reading.proofs.empty.Given as goal

abbrev pub invariant-loop-word : goal.invariant-loop-word
invariant-loop-word l = (j : ℕ) → j < l.word-index → present? (entry (get_or l.row j 0)) ≡ false
