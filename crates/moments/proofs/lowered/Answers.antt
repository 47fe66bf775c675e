-- `moments::lowered` meets its contract. The times passed are written, made early enough. Assumes nothing.
use native.Mathlib.Omega.{arith}
use lib.ListN.{length-set}
use Rattle.tables.specs.Held.{meant_v}
use Rattle.tables.proofs.LineLaws.{written_more}
use Rattle.moments.proofs.lowered.Goals as goal

pub loop-j-preserved : goal.loop-j-preserved
unfolding meant_v
loop-j-preserved c =
    let j = c.loop-j.j in (
      simp length-set c.loop-j.invariant.0,
      λ X w. written_more _ (omega arith) (c.loop-j.invariant.1 X w) (c.early.ensures.is (X j) (w.words.is.at j (omega arith))) c.early.ensures.close,
    )
