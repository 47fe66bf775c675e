-- What a sheet's meaning says of timings, said of a cue's vectors, whose components may be absent: the words of the method's theory.
use Rattle.std.specs.Prelude.{ℕ, ◌<◌, ℤ}
use Rattle.maxplus.specs.Entry.{E, ◌≼◌, ◌⊗◌, Present}
use Rattle.maxplus.specs.Tables.{Vec, Mat, mv}
use Rattle.cue.specs.Cue.{Cue, timing, overdue, shortfall}

-- "keeps the order": x(i) ≥ b(i,j) + x(j)
unfoldable pub Keeps : ℕ → Mat → Vec → Type 0
Keeps n B x = (i j : ℕ) → i < n → j < n → B i j ⊗ x j ≼ x i

module _ (n : ℕ) (P : Cue) where
  open P use {panels, lag, floor, due, order}

  -- "Landing y(i) is the largest a(i,j) + x(j)."
  abbrev pub landing : Vec → Vec
  landing x = mv n lag x

  -- "Deviation is the largest x(j) − q(j) plus the largest p(i) − y(i) over panels with a floor."
  unfoldable pub deviation : Vec → E
  deviation x = overdue n (timing due) x ⊗ shortfall panels n lag floor x

  -- "It is tightest when it keeps the order and no timing that does has a smaller deviation."
  pub record Tightest (X : ℕ → ℤ) : Type 0 where
    pub keeps : Keeps n order (timing X)
    pub least : (Y : ℕ → ℤ) → Keeps n order (timing Y) → deviation (timing X) ≼ deviation (timing Y)

  -- "each panel needs one [lag] present", "one [floor] must be present", and at least one trigger
  pub record Readable : Type 0 where
    pub trigger : 0 < n
    pub floored : (i : ℕ) × (i < panels) × Present (floor i)
    pub lagged : (i : ℕ) → i < panels → (j : ℕ) × (j < n) × Present (lag i j)
