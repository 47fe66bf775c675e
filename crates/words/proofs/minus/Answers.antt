-- `words::minus` meets its contract. Assumes nothing.
use native.Mathlib.Omega.{arith}
use Rattle.words.proofs.Laws.{minus_none, minus_none_r, minus_is}
use Rattle.words.proofs.minus.Goals as goal
use Rattle.words.proofs.minus.Goals.{then-a-eq0-via-then-a-eq0, then-a-eq0-via-else-a-eq0+then-b-eq0}

pub returns-then-a-eq0 : goal.returns-then-a-eq0
returns-then-a-eq0 c = elim c.then-a-eq0.branch [
  | then-a-eq0-via-then-a-eq0 w ↦ minus_none _ _ w.if-a-eq0.true
  | then-a-eq0-via-else-a-eq0+then-b-eq0 w ↦ minus_none_r _ _ w.if-b-eq0.true
]

pub returns : goal.returns
returns c =
    minus_is _ _ (omega arith) (omega arith)
    (let p = c.requires.0.low (omega arith) in let q = c.requires.1.low (omega arith) in omega arith)
