-- The limit on the components of a timing that is tested (document 01, "Testing a timing").
use Rattle.std.specs.Prelude.{[], ◌∷◌, Bool, ◌||◌, ℕ, ltb, ℤ}
use Rattle.maxplus.specs.Whole.{up, dn}
use Rattle.maxplus.specs.Finite.{each}
use Rattle.sheet.specs.Sheet.{any}
use Rattle.sheet.specs.Meaning.{Timing}

-- "one beyond ±1,000,000,000"
abbrev pub far_limit : ℕ
far_limit = 1_000_000_000

abbrev pub beyond : ℤ → Bool
beyond z = ltb far_limit (up z) || ltb far_limit (dn z)

abbrev pub some_beyond : ℕ → Timing → Bool
some_beyond n X = any beyond (each n (λ j. X j ∷ []))
