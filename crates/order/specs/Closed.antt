-- What step 1 gives: whether timings that keep the order exist, and then M*.
use Rattle.std.specs.Prelude.{Bool, List, ◌≡◌, ℕ, ◌<◌}
use Rattle.maxplus.specs.Entry.{◌⊗◌, ◌⊕◌}
use Rattle.maxplus.specs.Tables.{Mat, star, NoGain}
use Rattle.tables.specs.Held.{meant, Square, Holds, Says}

pub record Closed (n : ℕ) (A : Mat) (stars : List (List ℕ)) (r : Bool) : Type 0 where
  pub order : Says (NoGain n A) r
  pub starred : NoGain n A → Holds n n (star n A) stars

-- the ways through trigger k too
pub record Passed (n k : ℕ) (before after : List (List ℕ)) : Type 0 where
  pub square : Square after
  pub at : (i j : ℕ) → i < n → j < n → meant after i j ≡ meant before i j ⊕ meant before i k ⊗ meant before k j
