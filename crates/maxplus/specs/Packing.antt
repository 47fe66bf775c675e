-- The places that pass a test t, in order and packed to the front; and vectors and lines over them laid out again, each component at its place.
use Rattle.std.specs.Prelude.{Bool, cond, ◌&&◌, ℕ, zero, suc, eqb}
use Rattle.maxplus.specs.Entry.{absent}
use Rattle.maxplus.specs.Finite.{sum, count_if}
use Rattle.maxplus.specs.Line.{Line, at, line}

module _ (t : ℕ → Bool) where
  -- how many places below j pass
  unfoldable pub rank : ℕ → ℕ
  rank j = sum j (λ l. count_if (t l) 1)

  -- the k-th place below n that passes, counted from 0
  unfoldable pub place : ℕ → ℕ → ℕ
  place zero k = 0
  place (suc n) k = cond (t n && eqb (rank n) k) n (place n k)

  -- f in order at the places that pass, g at all others
  unfoldable pub filled : {A : Type 0} → (g f : ℕ → A) → ℕ → A
  filled g f j = cond (t j) (f (rank j)) (g j)

  -- a line of m components over w places, absent where the test does not pass
  unfoldable pub layout : (m w : ℕ) → Line m → Line w
  layout m w c = line w (filled (λ j. absent) (at m c))
