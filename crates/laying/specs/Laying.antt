-- The sheet's list in a lent space, and what is known of the cue's lines there before they are laid out over the sheet's triggers and get their
-- caps.
use Rattle.std.specs.Prelude.{◌≡◌, List, ◌++◌, ℕ, ◌*◌, ◌/◌, ◌≤◌, ◌<◌, ℤ, length, take, drop, Option, Result, Ok, Err}
use Rattle.maxplus.specs.Entry.{num, ◌⊗◌, inv}
use Rattle.maxplus.specs.Finite.{In}
use Rattle.maxplus.specs.Tables.{sup, Vec}
use Rattle.maxplus.specs.Line.{Line, at}
use Rattle.cue.specs.Method.{lines}
use Rattle.cue.specs.Results.{Signed32}
use Rattle.cue.specs.Sizes.{size_limit}
use Rattle.cue.specs.Standing.{Stands}
use Rattle.cue.specs.Written.{line_size, width, line_words, list_words, with_list}
use Rattle.sheet.specs.Sheet.{Sheet}
use Rattle.sheet.specs.Cue.{used, cue_size, cue_of, Orderly, sheet_lines, sheet_caps}
use Rattle.sheet.specs.Good.{Good}
use Rattle.sheet.specs.Sizes.{cap_down}
use Rattle.tables.specs.Held.{meant_v, CloselyV}
use Rattle.spares.specs.declared.Places.{Places}
use Rattle.spares.specs.Using.{PlacesOf}
use Rattle.moments.specs.Moments.{MomentsOf}
use Rattle.lines.specs.declared.NoRoom.{NoRoom}

-- "writes exactly the list at the front of the space and leaves the rest", or "the list has more lines than the lent space holds" and no word
-- changes
abbrev pub Lists : Sheet → List ℤ → List ℤ → Result ℕ NoRoom → Type 0
Lists t before after (Ok k) = (k ≡ length (sheet_lines t)) × (length (sheet_lines t) ≤ length before / width (sheet_caps t)) ×
    (after ≡ with_list t.triggers (sheet_caps t) (sheet_lines t) before)
Lists t before after (Err e) =
    (e.count ≡ length (sheet_lines t)) × (length before / width (sheet_caps t) < length (sheet_lines t)) × (after ≡ before)

-- z is the cap of the line c by the overruns o, minus the largest sum of an overrun and a component, and it fits a word
pub record CapOf (n : ℕ) (o : Vec) (c : Line n) (z : ℤ) : Type 0 where
  pub is : num z ≡ inv (sup n (λ j. o j ⊗ at n c j))
  pub fits : Signed32 (num z)

-- the line c is the k-th of the space, seven words a line, and z is its cap
pub record CappableLine (n : ℕ) (overruns : List ℕ) (k : ℕ) (space : List ℤ) (c : Line n) (z : ℤ) : Type 0 where
  pub few : n ≤ size_limit
  pub words : take line_size (drop (line_size * k) space) ≡ line_words n c
  pub fitting : (j : ℕ) → j < n → Signed32 (at n c j)
  pub close : CloselyV n cap_down overruns
  pub cap : CapOf n (meant_v overruns) c z

-- the list L stands at the front of the space, and each of its lines has its cap
pub record Cappable (n : ℕ) (overruns : List ℕ) (count : ℕ) (space : List ℤ) (caps : Line n → ℤ) (L : List (Line n)) : Type 0 where
  pub few : n ≤ size_limit
  pub stands : Stands n count space L
  pub close : CloselyV n cap_down overruns
  pub cap : (c : Line n) → In c L → CapOf n (meant_v overruns) c (caps c)

-- the list of the cue of t stands in a space that was lent, and there is room for the sheet's, with its caps if it has any
pub record Listing (t : Sheet) (before : List ℤ) (count : ℕ) (space : List ℤ) (p : Places) (r : Option (List ℕ)) : Type 0 where
  pub good : Good t
  pub order : Orderly t
  pub placed : PlacesOf (used t) t.triggers p
  pub moments : MomentsOf t r
  pub many : count ≡ length (lines (cue_size t) (cue_of t))
  pub room : width (sheet_caps t) * count ≤ length before
  pub words : space ≡ list_words (cue_size t) (lines (cue_size t) (cue_of t)) ++ drop (line_size * count) before
