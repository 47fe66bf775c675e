-- Sets of triggers, "six bits in a byte, bit 0 for trigger 1".
use Rattle.std.specs.Prelude.{◌↔◌, Bool, cond, List, [], ◌∷◌, ℕ, zero, suc, ◌/◌, ◌%◌, ◌^◌, ◌<◌, T, eqb}

-- bit j of m
abbrev pub bit : ℕ → ℕ → Bool
bit m j = eqb (m / 2 ^ j % 2) 1

abbrev pub Has : ℕ → ℕ → Type 0
Has m j = T (bit m j)

-- m is the set of those j for which Q holds
pub record SetOf (Q : ℕ → Type 0) (m : ℕ) : Type 0 where
  pub small : m < 64
  pub has : (j : ℕ) → j < 6 → Has m j ↔ Q j

-- the set bits of m among c bits from j on, ascending
unfoldable pub bits_from : ℕ → ℕ → ℕ → List ℕ
bits_from zero j m = []
bits_from (suc c) j m = cond (bit m j) (j ∷ bits_from c (suc j) m) (bits_from c (suc j) m)

unfoldable pub members : ℕ → List ℕ
members m = bits_from 6 0 m
