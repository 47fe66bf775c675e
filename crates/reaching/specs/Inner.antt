-- What the functions that make the timing promise. Nothing public is stated here.
use Rattle.std.specs.Prelude.{List, ℕ, ◌+◌, ◌*◌, ◌≤◌, ◌<◌, ℤ, length}
use Rattle.maxplus.specs.Entry.{E, num, ◌⊗◌, inv}
use Rattle.maxplus.specs.Tables.{sup_l, Vec, NoGain}
use Rattle.maxplus.specs.Line.{Line, at}
use Rattle.cue.specs.Cue.{Cue, timing, overdue}
use Rattle.cue.specs.Latest.{latest}
use Rattle.cue.specs.Method.{lines}
use Rattle.cue.specs.Results.{Within}
use Rattle.cue.specs.Sizes.{size_limit}
use Rattle.cue.specs.Standing.{Stands}
use Rattle.cue.specs.Vectors.{Readable}
use Rattle.cue.specs.Written.{line_size}
use Rattle.sheet.specs.Sizes.{line_down}
use Rattle.sheet.specs.Times.{far_limit}
use Rattle.tables.specs.Held.{HoldsV, CloselyV}

-- the largest weight with which a line stays within x: minus the largest c(j) − x(j)
unfoldable pub weight_in : (n : ℕ) → Vec → Line n → E
weight_in n x c = inv (overdue n x (at n c))

-- the largest of the lines, each with that weight
abbrev pub most_within : (n : ℕ) → Vec → List (Line n) → Vec
most_within n x L j = sup_l L (λ c. weight_in n x c ⊗ at n c j)

-- what the latest timing is made from: the lines of a cue stand in the space, and the words of a wish are those of G
pub record Weighable (n : ℕ) (P : Cue) (G : ℕ → ℤ) (count : ℕ) (space : List ℤ) (wish : List ℕ) : Type 0 where
  pub few : n ≤ size_limit
  pub holds : line_size * count ≤ length space
  pub stands : Stands n count space (lines n P)
  pub wished : HoldsV n (timing G) wish
  pub close : CloselyV n far_limit wish
  pub readable : Readable n P
  pub order : NoGain n P.order
  pub sizes : (j : ℕ) → j < n → Within (far_limit + line_down) far_limit (num (latest n P G j))
