-- What the walk of step 5 comes to, for any D in the place of Δ: the panels still to fix, and the entries left.
use Rattle.std.specs.Prelude.{List, ◌∷◌, ℕ, ◌<◌, T, ℤ}
use Rattle.cue.specs.Cue.{Cue}
use Rattle.cue.specs.Method.{Entries, floor_panels, cut, kept}

pub data Visited (n : ℕ) (P : Cue) (D : ℤ) : List ℕ → Entries → Type 0 where
  start : Visited n P D (floor_panels n P) (kept n P D)
  down : {i : ℕ} {is : List ℕ} {o : Entries} (j : ℕ) → Visited n P D (i ∷ is) o → j < n → T (o i j) → Visited n P D is (cut n P i j o)
