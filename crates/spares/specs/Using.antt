-- The triggers in use as a program holds them, and what is picked by them.
use Rattle.std.specs.Prelude.{◌≡◌, Bool, not, ◌||◌, List, ℕ, ◌≤◌, ◌<◌, T, get_or}
use Rattle.maxplus.specs.Entry.{present?}
use Rattle.maxplus.specs.Finite.{byte_of}
use Rattle.maxplus.specs.Tables.{sup, Mat}
use Rattle.maxplus.specs.Packing.{rank, place}
use Rattle.cue.specs.Sizes.{size_limit}
use Rattle.tables.specs.Held.{cell}
use Rattle.tables.specs.Lines.{Sized}
use Rattle.spares.specs.declared.Places.{Places}

-- trigger j has a lag in A, or an entry of the order table B in its row or column
unfoldable pub tied : (m n : ℕ) → (B A : Mat) → ℕ → Bool
tied m n B A j = present? (sup m (λ i. A i j)) || present? (sup n (λ k. B j k)) || present? (sup n (λ k. B k j))

-- those of n triggers that pass the test s are in use: how many, where, and as sets these and the others
pub record PlacesOf (s : ℕ → Bool) (n : ℕ) (p : Places) : Type 0 where
  pub inside : (j : ℕ) → T (s j) → j < n
  pub few : n ≤ size_limit
  pub triggers_are : p.triggers ≡ n
  pub count_is : p.count ≡ rank s n
  pub at_are : (k : ℕ) → k < rank s n → get_or p.at k 0 ≡ place s n k
  pub used_is : p.used ≡ byte_of n s
  pub spares_are : p.spares ≡ byte_of n (λ j. not (s j))

-- what is asked where something is picked: each place is one of six
pub record Pickable (p : Places) : Type 0 where
  pub few : p.count ≤ size_limit
  pub below : (k : ℕ) → k < p.count → get_or p.at k 0 < 6

-- the words of r are those of the row at the places in use, absent past them
pub record Picked (p : Places) (row r : List ℕ) : Type 0 where
  pub sized : Sized p.count r
  pub at : (k : ℕ) → k < p.count → get_or r k 0 ≡ get_or row (get_or p.at k 0) 0

-- tables picked at the places in use: lag has them as columns, order as rows and columns
pub record PickedTables (s : ℕ → Bool) (n m : ℕ) (order-before order-after lag-before lag-after : List (List ℕ)) : Type 0 where
  pub lags : (i k : ℕ) → i < m → k < rank s n → cell lag-after i k ≡ cell lag-before i (place s n k)
  pub orders : (k l : ℕ) → k < rank s n → l < rank s n → cell order-after k l ≡ cell order-before (place s n k) (place s n l)
