-- The words of a sheet's overruns.
use Rattle.std.specs.Prelude.{◌≡◌, List, ℕ, true, false, Option, Some, None}
use Rattle.sheet.specs.Sheet.{Sheet, given}
use Rattle.sheet.specs.Overruns.{overruns}
use Rattle.sheet.specs.Sizes.{cap_down}
use Rattle.tables.specs.Held.{HoldsV, CloselyV}

-- the overruns of a sheet that has a last line, none further from 0 than two limits
pub record OverrunsOf (t : Sheet) (r : List ℕ) : Type 0 where
  pub given_is : given t.last ≡ true
  pub holds : HoldsV t.triggers (overruns t) r
  pub close : CloselyV t.triggers cap_down r

-- they are there where the sheet has a last line
abbrev pub MomentsOf : Sheet → Option (List ℕ) → Type 0
MomentsOf t (Some r) = OverrunsOf t r
MomentsOf t None = given t.last ≡ false
