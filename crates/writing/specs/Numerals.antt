-- Numbers and entries as ASCII text (document 01, "The sheet").
use Rattle.std.specs.Prelude.{List, [], ◌∷◌, ◌++◌, cond, ℕ, zero, suc, ◌+◌, ◌/◌, ◌%◌, ltb, ℤ, pos, negsuc}
use Rattle.maxplus.specs.Entry.{E, absent, num}
use Rattle.sheet.specs.Text.{bytes}

-- the decimal digits of v, of which there are at most k
unfoldable pub digits : ℕ → ℕ → List ℕ
digits zero v = []
digits (suc k) v = cond (ltb v 10) ((48 + v) ∷ []) (digits k (v / 10) ++ (48 + v % 10) ∷ [])

abbrev pub natural : ℕ → List ℕ
natural v = digits (suc v) v

-- "A number is 0, or an optional minus, a digit 1 to 9 and any digits. Absent is a lone minus"
abbrev pub numeral : ℤ → List ℕ
numeral (pos v) = natural v
numeral (negsuc v) = bytes "-" ++ natural (suc v)

abbrev pub item : E → List ℕ
item absent = bytes "-"
item (num z) = numeral z
