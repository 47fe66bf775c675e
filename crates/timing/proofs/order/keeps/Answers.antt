-- `timing::order::keeps` meets its contract. The rules passed, row by row, are kept. Assumes nothing.
use native.Mathlib.Omega.{arith}
use borrow.Author.Count.{below_more}
use Rattle.words.proofs.Laws.{within_word, beyond_word}
use Rattle.cue.specs.Vectors.{Keeps}
use Rattle.tables.specs.Held.{meant, meant_v}
use Rattle.timing.proofs.order.keeps.Goals as goal

pub returns-then-x-i : goal.returns-then-x-i
unfolding Keeps meant meant_v
returns-then-x-i c =
    let i = c.loop-i.i in
    let j = c.loop-j.j in
    λ k. beyond_word c.plus.ensures c.if-x-i.true (k i j (omega arith) (omega arith))

pub loop-j-preserved : goal.loop-j-preserved
unfolding meant meant_v
loop-j-preserved c = below_more _ _ c.loop-j.invariant (within_word c.plus.ensures c.if-x-i.false)

pub returns : goal.returns
unfolding Keeps
returns c = λ i j hi hj. c.loop-i.invariant i (omega arith) j hj
