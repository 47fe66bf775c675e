-- What packing the panels with a floor promises, what is asked of the words of a level, and what is compared there.
use Rattle.std.specs.Prelude.{◌≡◌, List, [], ℕ, ◌≤◌, ◌<◌, length, get_or, take}
use Rattle.maxplus.specs.Entry.{◌⊗◌, inv}
use Rattle.maxplus.specs.Finite.{map_l}
use Rattle.maxplus.specs.Tables.{Vec, Mat}
use Rattle.words.specs.Words.{far, Near}
use Rattle.tables.specs.Held.{Holds, CloselyV}
use Rattle.preparing.specs.declared.Packed.{Packed}

-- the first places are the panels of the list, in its order, with their bytes; 0 stands past them
pub record PackedAs (kept panels : List ℕ) (r : Packed) : Type 0 where
  pub size : length r.kept ≡ 6
  pub many : r.panels ≡ length panels
  pub panels_are : take r.panels r.at ≡ panels
  pub bytes_are : take r.panels r.kept ≡ map_l (λ i. get_or kept i 0) panels
  pub past : (l : ℕ) → r.panels ≤ l → get_or r.kept l 0 ≡ 0

-- each of the first f places is a panel, whose words of d, of a floor and of p(i) − Δ are near
pub record LevelsNear (f n : ℕ) (through : List (List ℕ)) (floor asks at : List ℕ) : Type 0 where
  pub panel : (l : ℕ) → l < f → get_or at l 0 < 6
  pub row_near : (l : ℕ) → l < f → CloselyV n far (get_or through (get_or at l 0) [])
  pub floor_near : (l : ℕ) → l < f → Near (get_or floor (get_or at l 0) 0)
  pub ask_near : (l : ℕ) → l < f → Near (get_or asks (get_or at l 0) 0)

-- row l of gains has d(i,j) − p(i), and row l of needs p(i) − Δ − d(i,j), for the l-th panel i; a is p − Δ
pub record LevelTables (f n : ℕ) (D : Mat) (p a : Vec) (at : List ℕ) (gains needs : List (List ℕ)) : Type 0 where
  pub gained : Holds f n (λ l j. D (get_or at l 0) j ⊗ inv (p (get_or at l 0))) gains
  pub needed : Holds f n (λ l j. a (get_or at l 0) ⊗ inv (D (get_or at l 0) j)) needs
