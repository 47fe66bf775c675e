-- "a line carries its count of triggers and its six components, the unused ones absent"
use Rattle.std.specs.Prelude.{◌≡◌, List, ℕ, ◌≤◌, length, get_or}
use Rattle.maxplus.specs.Tables.{Vec}
use Rattle.maxplus.specs.Line as maxplus
use Rattle.maxplus.specs.Line.{line}
use Rattle.words.specs.declared.LineWords.{LineWords}
use Rattle.tables.specs.Held.{meant_v, HoldsV, CloselyV}

-- the line that the first n words stand for
unfoldable pub line_of : (n : ℕ) → List ℕ → maxplus.Line n
line_of n w = line n (meant_v w)

-- six words, all past the first n absent
pub record Sized (n : ℕ) (w : List ℕ) : Type 0 where
  pub size : length w ≡ 6
  pub past : (j : ℕ) → n ≤ j → get_or w j 0 ≡ 0

-- and the first n are those of x, no number further than c from 0
pub record WordsOf (n c : ℕ) (x : Vec) (w : List ℕ) : Type 0 where
  pub sized : Sized n w
  pub is : HoldsV n x w
  pub close : CloselyV n c w

-- a line, w or timing of n triggers with these words
pub record Carries (n c : ℕ) (x : Vec) (l : LineWords) : Type 0 where
  pub count : l.count ≡ n
  pub words : WordsOf n c x l.at
