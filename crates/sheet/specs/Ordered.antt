-- Reading and the order check, with which planning and the kept table begin (document 01, "What each operation may refuse").
use Rattle.std.specs.Prelude.{List, ℕ}
use Rattle.sheet.specs.Sheet.{Got, got, refused, Sheet, ◌>>=◌, read}
use Rattle.sheet.specs.Cue.{orderly?}

-- "Reading's refusals, then 8: no timing keeps the order."
unfoldable pub ordered : List ℕ → Got Sheet
ordered s = read s >>= λ t r. elim (orderly? t) [ yes h ↦ got t r | no h ↦ refused 8 ]
