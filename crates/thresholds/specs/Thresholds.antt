-- Steps 4 and 5 over the tables that a step is given: D is d, u the pulls (the marks with the sign turned), p the floors, e the least
-- deviation.
use Rattle.std.specs.Prelude.{◌≡◌, List, [], ◌∷◌, Bool, ◌&&◌, ℕ, ◌≤◌, ◌<◌, length, get_or}
use Rattle.maxplus.specs.Entry.{E, ◌⊗◌, inv, leq_E, present?}
use Rattle.maxplus.specs.Finite.{each, only_if}
use Rattle.maxplus.specs.Tables.{Vec, Mat}
use Rattle.maxplus.specs.Finite.{byte_of}

-- "Entry d(i,j) is kept if it is present and at least p(i) − Δ − r(j)."; a is p(i) − Δ
unfoldable pub reaches : E → Mat → Vec → ℕ → ℕ → Bool
reaches a D u i j = leq_E (a ⊗ u j) (D i j)

-- "Panels without a floor keep none."; f is p(i)
unfoldable pub kept_of : E → Mat → Vec → E → ℕ → ℕ → Bool
kept_of e D u f i j = present? f && reaches (f ⊗ inv e) D u i j

-- the byte of each of m panels, and 0 past them
pub record KeptBytes (m n : ℕ) (b : ℕ → ℕ → Bool) (r : List ℕ) : Type 0 where
  pub size : length r ≡ 6
  pub at : (i : ℕ) → i < m → get_or r i 0 ≡ byte_of n (b i)
  pub past : (i : ℕ) → m ≤ i → get_or r i 0 ≡ 0

-- step 5: "panels with a floor in sheet order"
unfoldable pub floored : ℕ → Vec → List ℕ
floored m p = each m (λ i. only_if (present? (p i)) (i ∷ []))
