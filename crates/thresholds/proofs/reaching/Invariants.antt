-- `thresholds::reaching` meets its contract. The bits of the triggers passed; the next bit is larger. Assumes nothing.
use mathlib.Core.Path.{◌≡◌}
use Rattle.words.specs.Words.{entry}
use Rattle.tables.specs.Held.{meant, meant_v}
use Rattle.thresholds.specs.Thresholds.{reaches}
use Rattle.maxplus.specs.Finite.{byte_of}
use Rattle.thresholds.proofs.reaching.Given as goal

abbrev pub invariant-loop-j : goal.invariant-loop-j
invariant-loop-j l = (l.byte ≡ byte_of l.j (reaches (entry l.ask) (meant l.through) (meant_v l.pulls) l.i))
