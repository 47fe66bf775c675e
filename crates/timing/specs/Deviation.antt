-- The deviation over the tables that a timing is tested with: A the lags, p the floors, q the due marks, x the times.
use Rattle.std.specs.Prelude.{List, ℕ, ◌≤◌}
use Rattle.maxplus.specs.Entry.{E, ◌⊗◌}
use Rattle.maxplus.specs.Tables.{Vec, Mat}
use Rattle.cue.specs.Cue.{overdue, shortfall}
use Rattle.sheet.specs.Sheet.{limit}
use Rattle.tables.specs.Held.{Closely, CloselyV}
use Rattle.cue.specs.Sizes.{size_limit}

-- "Deviation is the largest x(j) − q(j) plus the largest p(i) − y(i) over panels with a floor."
unfoldable pub deviation_of : ℕ → ℕ → Mat → Vec → Vec → Vec → E
deviation_of m n A p q x = overdue n q x ⊗ shortfall m n A p x

-- what is asked of a sheet's words: at most six panels and triggers, and entries in range
pub record SheetClose (panels n : ℕ) (lag : List (List ℕ)) (floor due : List ℕ) : Type 0 where
  pub few_panels : panels ≤ size_limit
  pub few_triggers : n ≤ size_limit
  pub lags : Closely panels n limit lag
  pub floors : CloselyV panels limit floor
  pub dues : CloselyV n limit due
