-- Lists and sums over finitely many places.
use Rattle.std.specs.Prelude.{◌≡◌, ◌⊎◌, List, [], ◌∷◌, ◌++◌, Bool, true, false, ℕ, zero, suc, ◌+◌, ◌^◌}

module _ {A : Type 0} where
  abbrev pub In : A → List A → Type 0
  In a [] = ⊥
  In a (b ∷ l) = (a ≡ b) ⊎ In a l

  -- f 0, then f 1, and so on below n
  unfoldable pub each : ℕ → (ℕ → List A) → List A
  each zero f = []
  each (suc n) f = each n f ++ f n

  abbrev pub only_if : Bool → List A → List A
  only_if true l = l
  only_if false l = []

module _ {A C : Type 0} where
  unfoldable pub map_l : (A → C) → List A → List C
  map_l f [] = []
  map_l f (a ∷ l) = f a ∷ map_l f l

-- f 0 + … + f (n − 1)
unfoldable pub sum : ℕ → (ℕ → ℕ) → ℕ
sum zero f = 0
sum (suc n) f = sum n f + f n

abbrev pub count_if : Bool → ℕ → ℕ
count_if true k = k
count_if false k = 0

-- those places below n for which b is true, as the bits of a number
unfoldable pub byte_of : ℕ → (ℕ → Bool) → ℕ
byte_of n b = sum n (λ j. count_if (b j) (2 ^ j))
