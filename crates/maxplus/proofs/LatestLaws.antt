-- There is at most one latest vector of a kind.
use mathlib.Core.Path.{◌≡◌}
use Prim.Native.Nat.{ℕ, ◌<◌}
use lib.IntN.{ℤ}
use Rattle.maxplus.specs.Latest.{LatestOf}
use Rattle.maxplus.proofs.WholeLaws.{z_anti}

module _ {n : ℕ} {T : (ℕ → ℤ) → Type 0} {G X : ℕ → ℤ} where
  pub latest_one : {Y : ℕ → ℤ} → LatestOf n T G X → LatestOf n T G Y → (j : ℕ) → j < n → X j ≡ Y j
  latest_one {Y} h k j hj = z_anti (k.latest X h.such h.no_later j hj) (h.latest Y k.such k.no_later j hj)
