-- `tally::packed` meets its contract: the word speaks of the levels from `k` on.
use mathlib.Core.Path.{◌≡◌}
use Prim.Native.Nat.{◌+◌, ◌-◌}
use native.Mathlib.Omega.{arith}
use Rattle.tally.proofs.WordLaws.{speaks_more, speaks_fits}
use Rattle.tally.proofs.packed.Goals as goal

pub overflow_mul-left : goal.overflow_mul-left
overflow_mul-left c = omega (arith, speaks_fits {l = c.loop-k.k} (omega arith) c.loop-k.invariant)

pub loop-k-preserved : goal.loop-k-preserved
loop-k-preserved c =
    let e : c.loop-k.k - 1 + 1 ≡ c.loop-k.k = omega arith in
    speaks_more (rw e c.loop-k.invariant) c.from.ensures (rw c.from.ensures (c.requires (c.loop-k.k - 1)))
