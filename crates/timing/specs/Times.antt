-- A timing's components and their words.
use Rattle.std.specs.Prelude.{List, cond, ℕ, ltb, ℤ, pos, get_or}
use Rattle.cue.specs.Cue.{timing}
use Rattle.cue.specs.Sizes.{six}
use Rattle.sheet.specs.Times.{far_limit}
use Rattle.words.specs.declared.LineWords.{LineWords}
use Rattle.tables.specs.Lines.{Carries}
use Rattle.timing.specs.declared.Timing.{Timing}

-- x(j + 1) of a timing's words
abbrev pub component : List ℤ → ℕ → ℤ
component at j = get_or at j (pos 0)

-- the words of n components, none of them beyond the limit
abbrev pub TimingWords : ℕ → (ℕ → ℤ) → LineWords → Type 0
TimingWords n X r = Carries n far_limit (timing X) r

-- a timing of n components, 0 in the unused places
abbrev pub timing_of : ℕ → (ℕ → ℤ) → Timing
timing_of n X = record { count = n; at = six (λ j. cond (ltb j n) (X j) (pos 0)) }
