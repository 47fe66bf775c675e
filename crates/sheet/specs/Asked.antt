-- What testing and comparing ask about the bytes of sheets. Of bytes that reading refuses nothing is so.
use Rattle.std.specs.Prelude.{◌≡◌}
use Rattle.sheet.specs.Sheet.{Got, got, refused, Sheet}
use Rattle.sheet.specs.Meaning.{Timing, TightestInTime, SameSpares, SameTimings}

-- "yes exactly when the timing is tightest", and meets every last moment
abbrev pub TightestOn : Got Sheet → Timing → Type 0
TightestOn (got t _) X = TightestInTime t X
TightestOn (refused k) X = ⊥

-- "every timing is tightest on both sheets or on neither", for equal numbers of triggers and "only where the same triggers are spare"
abbrev pub Alike : Got Sheet → Got Sheet → Type 0
Alike (got t _) (got u _) = (t.triggers ≡ u.triggers) × SameSpares t u × SameTimings t u
Alike (got t _) (refused k) = ⊥
Alike (refused k) h = ⊥
