-- A vector or a table of entries as words.
use Rattle.std.specs.Prelude.{List, ℕ, Option, Some, None}
use Rattle.std.proofs.Math.Option as maybe
use Rattle.maxplus.specs.Tables.{Vec, Mat}
use Rattle.cue.specs.Sizes.{six}
use Rattle.words.specs.Words.{word}

-- "Tables fit a square table of six by six": six words of a vector, six rows of a table
unfoldable pub strip : Vec → List ℕ
strip x = six (λ j. word (x j))

unfoldable pub strips : Mat → List (List ℕ)
strips A = six (λ i. strip (A i))

-- those of a table that may be missing
abbrev pub strips_given : maybe.Option Mat → Option (List (List ℕ))
strips_given maybe.none = None
strips_given (maybe.some A) = Some (strips A)
