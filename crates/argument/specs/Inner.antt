-- What the functions that read the argument promise.
use Rattle.std.specs.Prelude.{List, cond, ℕ, ◌%◌, min, ltb, ℤ, pos, length, get_or, set, Option, Some, None}
use Rattle.maxplus.specs.Whole.{dn}
use Rattle.cue.specs.Sizes.{six}
use Rattle.sheet.specs.Sheet.{Got, got, refused}
use Rattle.argument.specs.Times.{clip}
use Rattle.argument.specs.Whole.{magnitude, word_limit}
use Rattle.timing.specs.declared.Timing.{Timing}
use Rattle.argument.specs.declared.whole.Whole.{Whole}

-- the first six numbers, clipped, and 0 past the last
abbrev pub six_of : List ℤ → List ℤ
six_of zs = six (λ j. clip (get_or zs j (pos 0)))

abbrev pub put_at : List ℤ → ℕ → ℤ → List ℤ
put_at at count x = cond (ltb count 6) (set at count x) at

abbrev pub times_of : Got (List ℤ) → Option Timing
times_of (got zs s) = Some (record { count = length zs; at = six_of zs })
times_of (refused k) = None

-- whether it is below 0; how far it is from 0, at most 2^32; and the remainder of that by 2^32
abbrev pub parts : ℤ → Whole
parts z = record { negative = ltb 0 (dn z); size = min (magnitude z) word_limit; rest = magnitude z % word_limit }

abbrev pub whole_of : Got ℤ → Option Whole
whole_of (got z s) = Some (parts z)
whole_of (refused k) = None
