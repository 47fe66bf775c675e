-- `candidates::drawing::shifted` meets its contract. The places passed are written. Assumes nothing.
use native.Mathlib.Omega.{arith}
use Rattle.words.proofs.Laws.{close_minus}
use Rattle.tables.specs.Held.{meant_v}
use Rattle.tables.proofs.LineLaws.{written_more}
use Rattle.candidates.proofs.drawing.shifted.Goals as goal

pub loop-j-preserved : goal.loop-j-preserved
unfolding meant_v
loop-j-preserved c =
    let e = c.minus.ensures in
    written_more _ (omega arith) c.loop-j.invariant e (close_minus _ _ _ e (c.requires.1.at _ (omega arith)) c.requires.2)
