-- `words::above` meets its contract. Assumes nothing.
use native.Mathlib.Omega.{arith}
use Rattle.words.proofs.Laws.{entry_above}
use Rattle.words.proofs.above.Goals as goal

pub returns : goal.returns
returns c = omega (arith, entry_above c.args.a)
