-- A cue: the tables that the method works on, and the two largest values of which a deviation is the sum. Panels and triggers are counted
-- from 0, and the number of triggers, n, is a parameter of every definition.
use Rattle.std.specs.Prelude.{ℕ, ℤ}
use Rattle.maxplus.specs.Entry.{E, num, ◌⊗◌, inv}
use Rattle.maxplus.specs.Tables.{sup, Vec, Mat, mv}

-- "Lag a(i,j) … Floor p(i) … Due q(j): always present", and the order rules x(i) ≥ b(i,j) + x(j)
pub record Cue : Type 0 where
  pub panels : ℕ
  pub lag : Mat
  pub floor : Vec
  pub due : ℕ → ℤ
  pub order : Mat

-- whole numbers as a vector
abbrev pub timing : (ℕ → ℤ) → Vec
timing X j = num (X j)

-- "the largest x(j) − q(j)"
unfoldable pub overdue : ℕ → Vec → Vec → E
overdue n q x = sup n (λ j. x j ⊗ inv (q j))

-- "the largest p(i) − y(i) over panels with a floor", of m panels that land by the table A: an absent floor adds nothing to a largest
unfoldable pub shortfall : ℕ → ℕ → Mat → Vec → Vec → E
shortfall m n A p x = sup m (λ i. p i ⊗ inv (mv n A x i))
