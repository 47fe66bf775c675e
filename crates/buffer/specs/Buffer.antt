-- A buffer of lines in order, each by its six words. Its first len places hold lines.
use Rattle.std.specs.Prelude.{◌≡◌, List, [], ◌∷◌, ◌++◌, ℕ, ◌-◌, ◌≤◌, ◌<◌, length, get_or, take, drop}
use Rattle.maxplus.specs.Finite.{In, map_l}
use Rattle.maxplus.specs.Line.{Line, lt_l}
use Rattle.tables.specs.Lines.{line_of, Sized}

-- how many lines there is room for
abbrev pub room : ℕ
room = 80

-- the last place
abbrev pub end : ℕ
end = room - 1

abbrev pub row : List (List ℕ) → ℕ → List ℕ
row buf k = get_or buf k []

-- a stands before b
abbrev pub Before : List ℕ → List ℕ → Type 0
Before a b = lt_l 6 (line_of 6 a) (line_of 6 b)

pub record Ordered (len : ℕ) (buf : List (List ℕ)) : Type 0 where
  pub at : (i j : ℕ) → i < j → j < len → Before (row buf i) (row buf j)

-- r is the first place whose line does not stand before c
pub record Placed (buf : List (List ℕ)) (len : ℕ) (c : List ℕ) (r : ℕ) : Type 0 where
  pub few : r ≤ len
  pub before : (k : ℕ) → k < r → Before (row buf k) c
  pub from : (k : ℕ) → r ≤ k → k < len → ¬ (Before (row buf k) c)

-- c at its place is not there yet, nor past the end of a full buffer
abbrev pub Fresh : List (List ℕ) → ℕ → ℕ → List ℕ → Type 0
Fresh buf len at c = (at < room) × (at < len → Before c (row buf at))

-- a at place k, what stands from there on one place further
abbrev pub between : {A : Type 0} → List A → ℕ → A → List A
between l k a = take k l ++ a ∷ drop k l

-- the line c at a place, those from there on one place further, as many as there is room for
pub record Inserted (before : List (List ℕ)) (len at : ℕ) (c : List ℕ) (after : List (List ℕ)) (r : ℕ) : Type 0 where
  pub size : length after ≡ room
  pub few : r ≤ room
  pub rows : take r after ≡ take room (between (take len before) at c)

-- the lines that are held
unfoldable pub held : (n : ℕ) → ℕ → List (List ℕ) → List (Line n)
held n len buf = map_l (line_of n) (take len buf)

pub record Stored (n len : ℕ) (buf : List (List ℕ)) (L : List (Line n)) : Type 0 where
  pub few : len ≤ room
  pub size : length buf ≡ room
  pub sized : (w : List ℕ) → In w (take len buf) → Sized n w
  pub lines : held n len buf ≡ L
