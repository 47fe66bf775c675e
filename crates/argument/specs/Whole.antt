-- An argument that is one whole number, of any length: "A number is 0, or an optional minus, a digit 1 to 9 and any digits".
use Rattle.std.specs.Prelude.{List, [], ◌∷◌, ℕ, ◌+◌, ◌^◌, ℤ}
use Rattle.maxplus.specs.Whole.{up, dn}
use Rattle.sheet.specs.Sheet.{Got, got, refused, ◌>>=◌}
use Rattle.argument.specs.Times.{number}

abbrev pub alone : ℤ → List ℕ → Got ℤ
alone z [] = got z []
alone z (b ∷ s) = refused 2

unfoldable pub sole : List ℕ → Got ℤ
sole s = number s >>= alone

-- how far a number is from 0: one of the two is 0
abbrev pub magnitude : ℤ → ℕ
magnitude z = up z + dn z

-- no number that a program asks for has more bits
abbrev pub word_limit : ℕ
word_limit = 2 ^ 32
