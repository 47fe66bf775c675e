-- `moments::lowered` meets its contract. The times passed are written, made early enough. Assumes nothing.
use mathlib.Core.Path.{◌≡◌}
use Prim.Native.Nat.{ℕ}
use lib.IntN.{ℤ}
use lib.ListN.{length}
use Rattle.cue.specs.Cue.{timing}
use Rattle.sheet.specs.Overruns.{lower}
use Rattle.sheet.specs.Times.{far_limit}
use Rattle.tables.specs.Held.{meant_v}
use Rattle.tables.specs.Lines.{WordsOf}
use Rattle.timing.specs.Times.{TimingWords}
use Rattle.moments.proofs.lowered.Given as goal

abbrev pub invariant-loop-j : goal.invariant-loop-j
invariant-loop-j l =
    (length l.r ≡ 6) ×
    ((X : ℕ → ℤ) → TimingWords l.x.count X l.x → WordsOf l.j far_limit (timing (λ j. lower (X j) (meant_v l.overruns j))) l.r)
