-- Words of a lent space back to the lines that `list_words` puts there.
use Rattle.std.specs.Prelude.{◌≡◌, List, [], ◌∷◌, cond, ℕ, ◌+◌, ◌*◌, eqb, ℤ, pos, negsuc, length, take, get_or}
use Rattle.std.proofs.Math.Option.{Option}
use Rattle.maxplus.specs.Entry.{E, absent, num}
use Rattle.maxplus.specs.Finite.{each}
use Rattle.maxplus.specs.Line.{Line, line}
use Rattle.cue.specs.Written.{line_size, list_words, width, lent_words}
use Rattle.cue.specs.Results.{Fitting}

-- the entry of a signed word
unfoldable pub of_signed : ℤ → E
of_signed (pos v) = num (pos v)
of_signed (negsuc v) = cond (eqb v 0x7fff_ffff) absent (num (negsuc v))

-- the line whose seven words begin at `from`: its count of triggers, then its components
unfoldable pub line_at : (n : ℕ) → List ℤ → ℕ → Line n
line_at n ws from = line n (λ j. of_signed (get_or ws (from + 1 + j) (pos 0)))

-- the first `count` lines of the words
unfoldable pub lines_of : (n : ℕ) → ℕ → List ℤ → List (Line n)
lines_of n count ws = each count (λ k. line_at n ws (line_size * k) ∷ [])

-- the list L stands in the words, and no number in it is the word of absent
pub record Stands (n count : ℕ) (ws : List ℤ) (L : List (Line n)) : Type 0 where
  pub many : length L ≡ count
  pub words : take (line_size * count) ws ≡ list_words n L
  pub fitting : Fitting n L

-- and a list with its caps
pub record StandsWith (n count : ℕ) (ws : List ℤ) (caps : Option (Line n → ℤ)) (L : List (Line n)) : Type 0 where
  pub many : length L ≡ count
  pub words : take (width caps * count) ws ≡ lent_words n caps L
  pub fitting : Fitting n L
