-- Laws of lines: how the text of a table grows, row by row, as a loop writes it; what words mean there.
use mathlib.Core.Path.{◌≡◌, refl}
use mathlib.Core.List.{List, [], ◌++◌}
use Prim.Native.Nat.{ℕ, suc}
use Rattle.maxplus.specs.Finite.{each}
use lib.ListN.{get_or}
use Rattle.maxplus.specs.Tables.{Mat}
use Rattle.words.specs.Words.{entry}
use Rattle.tables.specs.Held.{meant_v}
use Rattle.writing.specs.Numerals.{item}
use Rattle.sheet_text.specs.SheetText.{row_text, rows_text}

module _ (key : List ℕ) (items : ℕ) (A : Mat) where
  pub rows_none : rows_text key 0 items A ≡ []
  unfolding rows_text each
  rows_none = refl

  pub rows_more : (i : ℕ) → rows_text key (suc i) items A ≡ rows_text key i items A ++ row_text key items (A i)
  unfolding rows_text each
  rows_more i = refl

-- ---- words: a row of them is what the table means there
pub item_meant : (row : List ℕ) (j : ℕ) → item (entry (get_or row j 0)) ≡ item (meant_v row j)
unfolding meant_v
item_meant row j = refl
