-- `spares::laid_set` meets its contract. The bits of the triggers passed; the next bit is larger. Assumes nothing.
use Prim.Native.Nat.{◌≤◌}
use Rattle.cue.specs.Sizes.{size_limit}
use Rattle.trigger_sets.specs.Sets.{bit}
use Rattle.spares.proofs.LaidLaws.{Laying}
use Rattle.spares.proofs.laid_set.Given as goal

abbrev pub invariant-loop-j : goal.invariant-loop-j
invariant-loop-j l = (l.p.triggers ≤ size_limit) × Laying (bit l.p.used) l.set l.byte l.k l.j
