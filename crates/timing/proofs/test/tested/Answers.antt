-- `timing::test::tested` meets its contract. Assumes nothing.
use Rattle.timing.proofs.TestLaws.{tested_kept, tested_broken}
use Rattle.timing.proofs.test.tested.Goals as goal

pub returns-then-keeps : goal.returns-then-keeps
returns-then-keeps c X w = tested_kept w _ (rw c.if-keeps.true at c.keeps.ensures) c.deviation.ensures

pub returns-else-keeps : goal.returns-else-keeps
returns-else-keeps c X w = rw c.if-keeps.false (tested_broken w (rw c.if-keeps.false at c.keeps.ensures))
