-- `writing::put_bytes` meets its contract: the first `k` bytes of the text are put. Assumes nothing.
use Rattle.writing.proofs.PutLaws.{copied_none, copied_more, copied_all}
use Rattle.writing.proofs.put_bytes.Goals as goal

pub loop-k-init : goal.loop-k-init
loop-k-init c = copied_none _ _ _ c.requires

pub loop-k-preserved : goal.loop-k-preserved
loop-k-preserved c = copied_more c.loop-k.invariant c.loop-k-test.true

pub returns : goal.returns
returns c = copied_all c.loop-k.invariant c.loop-k-test.false
