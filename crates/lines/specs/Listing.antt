-- How the list stands in the lent space, or does not fit.
use Rattle.std.specs.Prelude.{◌≡◌, List, ◌++◌, ℕ, ◌*◌, ◌≤◌, ◌<◌, ℤ, length, drop, Result, Ok, Err}
use Rattle.maxplus.specs.Line.{Line}
use Rattle.cue.specs.Written.{line_size, list_words}
use Rattle.lines.specs.declared.NoRoom.{NoRoom}

-- a list of lines of seven words at the front of the space, and the rest as it was; or it has more lines than there is room for, and no word
-- changes
abbrev pub Answers : (n : ℕ) → List (Line n) → ℕ → List ℤ → List ℤ → Result ℕ NoRoom → Type 0
Answers n L room before after (Ok k) = (k ≡ length L) × (length L ≤ room) × (after ≡ list_words n L ++ drop (line_size * length L) before)
Answers n L room before after (Err e) = (e.count ≡ length L) × (room < length L) × (after ≡ before)
