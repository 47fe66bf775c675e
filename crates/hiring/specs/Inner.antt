-- What the inner functions of the generator promise. Nothing public is stated here.
use Rattle.std.specs.Prelude.{◌≡◌, ℕ, suc, ◌*◌, ◌<◌, List, length, slice_index}
use Rattle.words.specs.Words.{word}
use Rattle.tables.specs.Held.{cell}
use Rattle.hiring.specs.Hiring.{Kind, first_there, all_there, below_diagonal, drawn_item, absence, upper, drawn, drawn_items}
use Rattle.hiring.specs.declared.Lines.{Lines}
use Rattle.hiring.specs.declared.Lines.TheVariants as lines

abbrev pub kind_of : Lines → Kind
kind_of lines.FirstThere = first_there
kind_of lines.AllThere = all_there
kind_of lines.BelowDiagonal = below_diagonal

-- the first j words of a row are the items of the i-th line, drawn from state s on, up to a state
pub record RowDrawn (k : Kind) (i s : ℕ) (row : List ℕ) (state j : ℕ) : Type 0 where
  pub size : length row ≡ 6
  pub state_is : state ≡ drawn s j
  pub at : (l : ℕ) → l < j → slice_index row l ≡ word (drawn_item (absence k i l) (upper (drawn s (suc l))))

-- the first rows of a table are those of the first lines of n items each
pub record RowsDrawn (k : Kind) (n s : ℕ) (rows : List (List ℕ)) (state i : ℕ) : Type 0 where
  pub size : length rows ≡ 6
  pub state_is : state ≡ drawn s (i * n)
  pub at : (h j : ℕ) → h < i → j < n → cell rows h j ≡ word (drawn_items k n s h j)
