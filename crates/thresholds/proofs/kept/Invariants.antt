-- `thresholds::kept` meets its contract. The bytes of the panels passed are written, and 0 stands past them. Assumes nothing.
use mathlib.Core.Path.{◌≡◌}
use lib.ListN.{length}
use Rattle.words.specs.Words.{entry}
use Rattle.tables.specs.Held.{meant, meant_v}
use Rattle.thresholds.specs.Thresholds.{kept_of, KeptBytes}
use Rattle.thresholds.proofs.kept.Given as goal

abbrev pub invariant-loop-i : goal.invariant-loop-i
invariant-loop-i l = (length l.r ≡ 6) × KeptBytes l.i l.n (λ i. kept_of (entry l.least) (meant l.through) (meant_v l.pulls) (meant_v l.floor i) i) l.r
