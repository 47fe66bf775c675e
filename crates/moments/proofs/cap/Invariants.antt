-- `moments::cap` meets its contract. Late is the largest sum of the places passed. Assumes nothing.
use mathlib.Core.Path.{◌≡◌}
use Prim.Native.Nat.{◌+◌}
use Rattle.maxplus.specs.Entry.{◌⊗◌}
use Rattle.maxplus.specs.Tables.{sup}
use Rattle.sheet.specs.Sizes.{cap_down}
use Rattle.words.specs.Words.{entry, signed_far, Close}
use Rattle.tables.specs.Held.{meant_v}
use Rattle.moments.proofs.cap.Given as goal

abbrev pub invariant-loop-j : goal.invariant-loop-j
invariant-loop-j l = (entry l.late ≡ sup l.j (λ j. meant_v l.overruns j ⊗ meant_v l.line j)) × Close (cap_down + signed_far) l.late
