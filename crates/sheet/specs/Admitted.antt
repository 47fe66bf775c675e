-- What testing a timing refuses, with which every operation on a sheet and a timing begins (document 01, "What each operation may refuse";
-- document 02, No. 1: "The refusals are those of testing, in that order").
use Rattle.std.specs.Prelude.{List, cond, not, ℕ, eqb}
use Rattle.sheet.specs.Sheet.{Got, refused, Sheet, ◌>>=◌, read}
use Rattle.sheet.specs.Meaning.{Timing}
use Rattle.sheet.specs.Ordered.{ordered}
use Rattle.sheet.specs.Times.{some_beyond}

-- "Reading's, then 10: not n components; 11: one beyond ±1,000,000,000; then 8."
unfoldable pub admitted : List ℕ → ℕ → Timing → Got Sheet
admitted s count X = read s >>= λ t r.
    cond (not (eqb count t.triggers)) (refused 10) (cond (some_beyond t.triggers X) (refused 11) (ordered s))
