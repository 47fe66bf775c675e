-- The formula that finds the latest timing (document 02, No. 1): each line with the largest weight that fits.
use Rattle.std.specs.Prelude.{List, ℕ, ℤ}
use Rattle.maxplus.specs.Whole.{neg}
use Rattle.maxplus.specs.Entry.{num, ◌⊗◌, val}
use Rattle.maxplus.specs.Tables.{sup_l}
use Rattle.maxplus.specs.Line.{Line, at}
use Rattle.cue.specs.Cue.{Cue, timing, overdue}
use Rattle.cue.specs.Method.{lines}

module _ (n : ℕ) where
  -- the largest weight that lifts no component of a line above G: the least G(j) − c(j), which is minus the largest c(j) − G(j)
  unfoldable pub fit : (ℕ → ℤ) → Line n → ℤ
  fit G c = neg (val (overdue n (timing G) (at n c)))

  -- the largest of weight + line, component by component
  unfoldable pub made : List (Line n) → (Line n → ℤ) → ℕ → ℤ
  made L w j = val (sup_l L (λ c. num (w c) ⊗ at n c j))

  unfoldable pub latest : Cue → (ℕ → ℤ) → ℕ → ℤ
  latest P G = made (lines n P) (fit G)
