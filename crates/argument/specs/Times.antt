-- The times that an argument gives: "A number is 0, or an optional minus, a digit 1 to 9 and any digits", "items split by one comma".
use Rattle.std.specs.Prelude.{List, [], ◌∷◌, cond, ℕ, zero, suc, min, eqb, ℤ, pos, negsuc}
use Rattle.maxplus.specs.Entry.{E, absent, num}
use Rattle.sheet.specs.Sheet.{Got, got, refused, ◌>>=◌, item}
use Rattle.sheet.specs.Times.{far_limit}

-- an item of a sheet that is a number
abbrev pub whole : E → List ℕ → Got ℤ
whole absent s = refused 2
whole (num z) s = got z s

unfoldable pub number : List ℕ → Got ℤ
number s = item s >>= whole

-- a number, and behind it the end, or a comma and what f reads
abbrev pub followed : (List ℕ → Got (List ℤ)) → ℤ → List ℕ → Got (List ℤ)
followed f z [] = got (z ∷ []) []
followed f z (b ∷ s) = cond (eqb b 0x2C) (f s >>= λ zs s. got (z ∷ zs) s) (refused 2)

-- all the numbers of an argument, which has at most k
unfoldable pub numbers : ℕ → List ℕ → Got (List ℤ)
numbers zero s = refused 2
numbers (suc k) s = number s >>= followed (numbers k)

-- a number beyond the limit counts as the first one past it
abbrev pub far_beyond : ℕ
far_beyond = suc far_limit

abbrev pub clip : ℤ → ℤ
clip (pos n) = pos (min n far_beyond)
clip (negsuc n) = negsuc (min n far_limit)
