-- "A max-plus combination of lines adds a weight to each line and takes the largest, component by component."
use Rattle.std.specs.Prelude.{◌≡◌, List, ℕ, ◌<◌, ℤ}
use Rattle.maxplus.specs.Entry.{E, num, ◌⊗◌}
use Rattle.maxplus.specs.Tables.{sup_l, Vec}
use Rattle.maxplus.specs.Line.{Line, at}

module _ (n : ℕ) where
  -- "with whole-number weights", one for each line (demands 2 and 3)
  pub record Weighed (L : List (Line n)) (X : ℕ → ℤ) : Type 0 where
    pub weight : Line n → ℤ
    pub is : (j : ℕ) → j < n → num (X j) ≡ sup_l L (λ c. num (weight c) ⊗ at n c j)

  -- "where here weights may also be absent" (step 7)
  pub record Combination (C : List (Line n)) (x : Vec) : Type 0 where
    pub weight : Line n → E
    pub is : (i : ℕ) → i < n → x i ≡ sup_l C (λ c. weight c ⊗ at n c i)
