-- The latest vector of a kind that is no later than a given one (document 02, No. 1).
use Rattle.std.specs.Prelude.{ℕ, ◌<◌, ℤ}
use Rattle.maxplus.specs.Whole.{◌≤z◌}

-- "none of whose components exceeds the given one"
abbrev pub NoLater : ℕ → (ℕ → ℤ) → (ℕ → ℤ) → Type 0
NoLater n X G = (j : ℕ) → j < n → X j ≤z G j

-- X is of the kind T, none of its components exceeds G's, and it is "at least as late, component by component, as every other such timing"
pub record LatestOf (n : ℕ) (T : (ℕ → ℤ) → Type 0) (G X : ℕ → ℤ) : Type 0 where
  pub such : T X
  pub no_later : NoLater n X G
  pub latest : (Y : ℕ → ℤ) → T Y → NoLater n Y G → NoLater n Y X
