-- "In max-plus, sums are largest values and products are sums." Vectors and tables are functions of places counted from 0.
use Rattle.std.specs.Prelude.{List, [], ◌∷◌, cond, ℕ, zero, suc, ◌≤◌, ◌<◌, eqb}
use Rattle.maxplus.specs.Entry.{E, absent, ◌≼◌, ◌⊗◌, ◌⊕◌, inv, unit}

-- the largest of f 0 … f (n − 1), and over a list
unfoldable pub sup : ℕ → (ℕ → E) → E
sup zero f = absent
sup (suc n) f = f n ⊕ sup n f

module _ {A : Type 0} where
  unfoldable pub sup_l : List A → (A → E) → E
  sup_l [] f = absent
  sup_l (a ∷ l) f = f a ⊕ sup_l l f

abbrev pub Vec : Type 0
Vec = ℕ → E

abbrev pub Mat : Type 0
Mat = ℕ → ℕ → E

-- table times vector, table times table
unfoldable pub mv : ℕ → Mat → Vec → Vec
mv n A x i = sup n (λ j. A i j ⊗ x j)

unfoldable pub mm : ℕ → Mat → Mat → Mat
mm n A B i j = sup n (λ k. A i k ⊗ B k j)

-- "power 0 has 0 on the diagonal and absent elsewhere"
unfoldable pub idm : Mat
idm i j = cond (eqb i j) unit absent

module _ (n : ℕ) (B : Mat) where
  unfoldable pub power : ℕ → Mat
  power zero = idm
  power (suc k) = mm n B (power k)

  -- "M* is the sum of the powers 0 to n − 1 of the after table", since document 02 of the order table
  unfoldable pub star : Mat
  star i j = sup n (λ k. power k i j)

  -- "no diagonal entry of powers 1 to n is above 0"
  unfoldable pub NoGain : Type 0
  NoGain = (k i : ℕ) → 0 < k → k ≤ n → i < n → power k i i ≼ unit

-- "shift so that the greatest component is 0"
unfoldable pub normal : ℕ → Vec → Vec
normal n x i = inv (sup n x) ⊗ x i
