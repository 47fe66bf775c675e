-- `keeping::laid_sets` meets its contract. The sets passed are laid out. Assumes nothing.
use mathlib.Core.Path.{◌≡◌}
use native.Mathlib.Omega.{arith}
use Rattle.keeping.proofs.KeptLaws.{six_filled}
use Rattle.keeping.proofs.laid_sets.Goals as goal

pub returns : goal.returns
returns c =
    λ s n h.
    six_filled _ _ (let e : c.loop-i.i ≡ 6 = omega arith in rw e at (c.loop-i.invariant s n h))
