-- `rays::raised` meets its contract. The places passed are written.
use native.Mathlib.Omega.{arith}
use Rattle.words.proofs.Laws.{close_more, close_larger, close_plus}
use Rattle.tables.specs.Held.{meant, meant_v}
use Rattle.tables.proofs.LineLaws.{written_more}
use Rattle.rays.specs.Rays.{joined_of}
use Rattle.rays.proofs.raised.Goals as goal

pub loop-j-preserved : goal.loop-j-preserved
unfolding joined_of meant meant_v
loop-j-preserved c =
    let e = c.plus.ensures in let f = c.larger.ensures in
    written_more _ (omega arith) c.loop-j.invariant (rw e at f)
    (close_larger _ _ _ f (c.requires.2.at _ (omega arith))
    (close_more (omega arith) (close_plus _ _ _ e c.requires.4 (c.requires.3.at _ _ (omega arith) c.requires.1))))
