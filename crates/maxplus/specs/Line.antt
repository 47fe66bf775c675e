-- A line of n triggers: n entries as data, "sorted by component 1, then 2 and so on, absent lowest".
use Rattle.std.specs.Prelude.{◌≡◌, ◌⊎◌, ℕ, zero, suc}
use Rattle.maxplus.specs.Whole.{◌<z◌}
use Rattle.maxplus.specs.Entry.{E, absent, num}
use Rattle.maxplus.specs.Tables.{Vec}

abbrev pub Line : ℕ → Type 0
Line zero = Unit {0}
Line (suc n) = E × Line n

-- the i-th component, counted from 0; absent past the last
unfoldable pub at : (n : ℕ) → Line n → ℕ → E
at zero c i = absent
at (suc n) c zero = c.0
at (suc n) c (suc i) = at n c.1 i

unfoldable pub line : (n : ℕ) → Vec → Line n
line zero f = tt
line (suc n) f = (f 0, line n (λ i. f (suc i)))

abbrev pub lt_E : E → E → Type 0
lt_E a absent = ⊥
lt_E absent (num b) = Unit {0}
lt_E (num a) (num b) = a <z b

abbrev pub lt_l : (n : ℕ) → Line n → Line n → Type 0
lt_l zero c d = ⊥
lt_l (suc n) c d = lt_E c.0 d.0 ⊎ ((c.0 ≡ d.0) × lt_l n c.1 d.1)
