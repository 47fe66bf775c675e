-- How a list stands in the lent space (document 01, step 7).
use Rattle.std.specs.Prelude.{List, [], ◌∷◌, ◌++◌, ℕ, ◌*◌, ℤ, pos, negsuc, length, take, drop}
use Rattle.std.proofs.Math.Option.{Option, none, some}
use Rattle.maxplus.specs.Entry.{E, absent, num}
use Rattle.maxplus.specs.Finite.{each}
use Rattle.maxplus.specs.Line.{Line, at}
use Rattle.cue.specs.Sizes.{six}

-- "In the lent space these are seven signed 32-bit words, absent being the least such number"
abbrev pub line_size : ℕ
line_size = 7

abbrev pub signed : E → ℤ
signed absent = negsuc 0x7fff_ffff
signed (num z) = z

-- "a line carries its count of triggers and its six components, the unused ones absent"
unfoldable pub line_words : (n : ℕ) → Line n → List ℤ
line_words n c = pos n ∷ six (λ i. signed (at n c i))

unfoldable pub list_words : (n : ℕ) → List (Line n) → List ℤ
list_words n [] = []
list_words n (c ∷ L) = line_words n c ++ list_words n L

-- "In the lent space a line of such a sheet takes eight words, its cap the eighth" (document 02, No. 5): how many words a line takes, and those
-- of a list, where each line may have a cap
abbrev pub capped_size : ℕ
capped_size = 8

abbrev pub width : {A : Type 0} → Option A → ℕ
width none = line_size
width (some w) = capped_size

abbrev pub cap_words : (n : ℕ) → Option (Line n → ℤ) → Line n → List ℤ
cap_words n none c = []
cap_words n (some w) c = w c ∷ []

unfoldable pub lent_words : (n : ℕ) → Option (Line n → ℤ) → List (Line n) → List ℤ
lent_words n caps [] = []
lent_words n caps (c ∷ L) = line_words n c ++ cap_words n caps c ++ lent_words n caps L

-- "exactly the list at the front of the space", which "leaves the rest"
abbrev pub with_list : (n : ℕ) → Option (Line n → ℤ) → List (Line n) → List ℤ → List ℤ
with_list n caps L space = lent_words n caps L ++ drop (width caps * length L) space

-- lists "with their caps left out": the first seven words of each line, where a line takes `wide` words
unfoldable pub uncapped : (wide count : ℕ) → List ℤ → List ℤ
uncapped wide count ws = each count (λ k. take line_size (drop (wide * k) ws))
