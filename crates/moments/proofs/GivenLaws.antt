-- Whether a sheet has last moments, by its words.
use mathlib.Core.Path.{◌≡◌, sym}
use mathlib.Core.List.{List}
use Prim.Native.Nat.{ℕ}
use Rattle.std.specs.Prelude.{Option, Some, None, is_some}
use Rattle.sheet.specs.Sheet.{Sheet, given}
use Rattle.moments.specs.Moments.{MomentsOf}

pub given_moments : (t : Sheet) (r : Option (List ℕ)) → MomentsOf t r → is_some r ≡ given t.last
given_moments t (Some o) m = sym m.given_is
given_moments t None m = sym m
