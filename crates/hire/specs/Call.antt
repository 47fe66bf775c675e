-- What the program is asked for by `hire PANELS TRIGGERS STATE [NUMBER]`: four whole numbers of any length, the last being 1 where it is not given.
use Rattle.std.specs.Prelude.{ℕ, ◌-◌, ◌^◌, Bool, cond, ◌&&◌, List, [], ℤ, ◌==◌, nat_lt}
use Rattle.maxplus.specs.Whole.{up, dn}
use Rattle.sheet.specs.Sheet.{Got, got, refused, ◌>>=◌}
use Rattle.argument.specs.Whole.{sole}

-- sizes, a state, and how many sheets of the chain go before
pub record Wanted : Type 0 where
  pub panels : ℕ
  pub triggers : ℕ
  pub state : ℕ
  pub before : ℕ

-- "an unsigned 32-bit state"; a place in the chain, counted from 1
abbrev pub state? : ℤ → Bool
state? z = dn z == 0 && nat_lt (up z) (2 ^ 32)

abbrev pub place? : ℤ → Bool
place? z = nat_lt 0 (up z)

-- a size below 0 is none, as 0 is; a call with any other state or place is wrong, and so is one with a word that is no number
abbrev pub wanted : (panels triggers state number : ℤ) → Got Wanted
wanted m n s k =
    cond (state? s && place? k) (got (record { panels = up m; triggers = up n; state = up s; before = up k - 1 }) []) (refused 2)

abbrev pub looked_at : (panels triggers state number : Got ℤ) → Got Wanted
looked_at P T S K = P >>= λ m _. T >>= λ n _. S >>= λ z _. K >>= λ w _. wanted m n z w

unfoldable pub asked : (panels triggers state number : List ℕ) → Got Wanted
asked p t s k = looked_at (sole p) (sole t) (sole s) (sole k)
