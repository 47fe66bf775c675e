-- `candidates::drawing::first_ray` meets its contract. The places passed are written.
use native.Mathlib.Omega.{arith}
use Rattle.words.proofs.Laws.{close_more, close_minus}
use Rattle.tables.specs.Held.{meant}
use Rattle.tables.proofs.LineLaws.{written_more}
use Rattle.candidates.proofs.drawing.first_ray.Goals as goal

pub loop-i-preserved : goal.loop-i-preserved
unfolding meant
loop-i-preserved c =
    let e = c.minus.ensures in
    written_more _ (omega arith) c.loop-i.invariant e
    (close_more (omega arith) (close_minus _ _ _ e (c.requires.2.at _ _ (omega arith) c.requires.1) c.requires.3))
