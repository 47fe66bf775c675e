-- `keeping::ones_of` meets its contract. The counts passed are written. Assumes nothing.
use mathlib.Core.Path.{◌≡◌}
use native.Mathlib.Omega.{arith}
use Rattle.keeping.proofs.KeptLaws.{six_filled}
use Rattle.keeping.proofs.ones_of.Goals as goal

pub returns : goal.returns
returns c = six_filled _ _ (let e : c.loop-i.i ≡ 6 = omega arith in rw e at c.loop-i.invariant)
