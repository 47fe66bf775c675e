-- Whole numbers: order, sum, sign, the larger of two. A number z is up z − dn z, so that its order is one on natural numbers.
use Rattle.std.specs.Prelude.{Bool, cond, ℕ, suc, ◌+◌, ◌≤◌, ◌<◌, leb, ℤ, pos, negsuc, ◌+ℤ◌, neg_ℤ}

abbrev pub up : ℤ → ℕ
up (pos n) = n
up (negsuc n) = 0

abbrev pub dn : ℤ → ℕ
dn (pos n) = 0
dn (negsuc n) = suc n

infix 50 ◌≤z◌
pub record ◌≤z◌ (a b : ℤ) : Type 0 where
  pub le : up a + dn b ≤ up b + dn a

infix 50 ◌<z◌
pub record ◌<z◌ (a b : ℤ) : Type 0 where
  pub lt : up a + dn b < up b + dn a

infixl 60 ◌+z◌
unfoldable pub ◌+z◌ : ℤ → ℤ → ℤ
a +z b = a +ℤ b

unfoldable pub neg : ℤ → ℤ
neg a = neg_ℤ a

abbrev pub leqz : ℤ → ℤ → Bool
leqz a b = leb (up a + dn b) (up b + dn a)

unfoldable pub maxz : ℤ → ℤ → ℤ
maxz a b = cond (leqz a b) b a
