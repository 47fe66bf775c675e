-- `words::plus` meets its contract. Assumes nothing.
use native.Mathlib.Omega.{arith}
use Rattle.words.proofs.Laws.{plus_none, plus_none_r, plus_is}
use Rattle.words.proofs.plus.Goals as goal
use Rattle.words.proofs.plus.Goals.{then-a-eq0-via-then-a-eq0, then-a-eq0-via-else-a-eq0+then-b-eq0}

pub returns-then-a-eq0 : goal.returns-then-a-eq0
returns-then-a-eq0 c = elim c.then-a-eq0.branch [
  | then-a-eq0-via-then-a-eq0 w ↦ plus_none _ _ w.if-a-eq0.true
  | then-a-eq0-via-else-a-eq0+then-b-eq0 w ↦ plus_none_r _ _ w.if-b-eq0.true
]

pub returns : goal.returns
returns c =
    plus_is _ _ (omega arith) (omega arith)
    (let p = c.requires.0.low (omega arith) in let q = c.requires.1.low (omega arith) in omega arith)
