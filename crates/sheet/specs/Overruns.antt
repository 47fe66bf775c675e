-- How late the landings of each trigger are, fired at 0: from this caps and being in time are worked out (document 02, No. 5). Inner: the
-- promises speak of landings.
use Rattle.std.proofs.Math.Option.{Option, none, some}
use Rattle.std.specs.Prelude.{ℕ, ℤ, cond}
use Rattle.maxplus.specs.Whole.{neg, leqz}
use Rattle.maxplus.specs.Entry.{E, absent, num}
use Rattle.cue.specs.Cue.{timing, overdue}
use Rattle.sheet.specs.Sheet.{Sheet}
use Rattle.sheet.specs.Meaning.{Timing}

-- the largest a(i,j) − b(i) over the panels that trigger j reaches; absent where it reaches none
unfoldable pub overrun : Sheet → (ℕ → ℤ) → ℕ → E
overrun t b j = overdue t.panels (timing b) (λ i. t.lag i j)

-- without last moments none
abbrev pub overruns_by : Sheet → Option (ℕ → ℤ) → ℕ → E
overruns_by t none j = absent
overruns_by t (some b) j = overrun t b j

abbrev pub overruns : Sheet → ℕ → E
overruns t = overruns_by t t.last

-- a time made no later than minus an overrun
abbrev pub lower : ℤ → E → ℤ
lower x absent = x
lower x (num v) = cond (leqz x (neg v)) x (neg v)

-- times made early enough
unfoldable pub lowered : Sheet → Timing → Timing
lowered t G j = lower (G j) (overruns t j)
