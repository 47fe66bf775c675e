-- `extremes::joined` meets its contract. The sets passed are joined. Assumes nothing.
use native.Mathlib.Omega.{arith}
use Rattle.trigger_sets.proofs.SetLaws.{union_more, union_less, set_with, set_self}
use Rattle.extremes.proofs.joined.Goals as goal
use Rattle.extremes.proofs.joined.Goals.{then-late-l, else-late-l}

pub loop-l-preserved : goal.loop-l-preserved
loop-l-preserved c = elim c.if-late-l.branch [
  | then-late-l w ↦ rw w.set-is (union_more _ _ _ _ c.loop-l.invariant (set_with w.if-late-l.true (set_self (c.requires.1 _ (omega arith)))))
  | else-late-l w ↦ rw w.set-is (union_less _ _ _ c.loop-l.invariant (λ j u. w.if-late-l.false u.0))
]
