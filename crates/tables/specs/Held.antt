-- How arrays of words hold tables and vectors of entries, and how far their words are from the word of 0.
use Rattle.std.specs.Prelude.{◌≡◌, List, [], Bool, true, false, ℕ, ◌<◌, length, get_or}
use Rattle.maxplus.specs.Entry.{E, ◌⊗◌, ◌⊕◌}
use Rattle.maxplus.specs.Tables.{Vec, Mat}
use Rattle.words.specs.Words.{entry, Close}

-- the word in row i, column j, and the entry that it stands for
abbrev pub cell : List (List ℕ) → ℕ → ℕ → ℕ
cell t i j = get_or (get_or t i []) j 0

unfoldable pub meant : List (List ℕ) → Mat
meant t i j = entry (cell t i j)

unfoldable pub meant_v : List ℕ → Vec
meant_v w j = entry (get_or w j 0)

-- six by six words
pub record Square (t : List (List ℕ)) : Type 0 where
  pub rows : length t ≡ 6
  pub row : (i : ℕ) → i < 6 → length (get_or t i []) ≡ 6

-- the first m rows and n columns are A's, the first n places x's
pub record Holds (m n : ℕ) (A : Mat) (t : List (List ℕ)) : Type 0 where
  pub at : (i j : ℕ) → i < m → j < n → meant t i j ≡ A i j

pub record HoldsV (n : ℕ) (x : Vec) (w : List ℕ) : Type 0 where
  pub at : (j : ℕ) → j < n → meant_v w j ≡ x j

-- the words there are absent or of numbers from −c to c
pub record Closely (m n c : ℕ) (t : List (List ℕ)) : Type 0 where
  pub at : (i j : ℕ) → i < m → j < n → Close c (cell t i j)

pub record CloselyV (n c : ℕ) (w : List ℕ) : Type 0 where
  pub at : (j : ℕ) → j < n → Close c (get_or w j 0)

-- what a test's answer says
abbrev pub Says : Type 0 → Bool → Type 0
Says P true = P
Says P false = ¬ P

-- the first n places have been raised to those of y shifted by s
pub record Raised (n : ℕ) (s : E) (y : Vec) (before after : List ℕ) : Type 0 where
  pub size : length after ≡ 6
  pub at : (j : ℕ) → j < n → meant_v after j ≡ (s ⊗ y j) ⊕ meant_v before j
