-- `preparing::copy_rows` meets its contract: the first `i` rows are copied. Assumes nothing.
use mathlib.Core.Path.{◌≡◌}
use lib.ListN.{length, take}
use Rattle.preparing.proofs.copy_rows.Given as goal

abbrev pub invariant-loop-i : goal.invariant-loop-i
invariant-loop-i l = (length l.to ≡ 6) × (take l.i l.to ≡ take l.i l.from)
