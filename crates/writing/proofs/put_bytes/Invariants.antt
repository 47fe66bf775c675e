-- `writing::put_bytes` meets its contract: the first `k` bytes of the text are put. Assumes nothing.
use Rattle.writing.proofs.PutLaws.{Copied}
use Rattle.writing.proofs.put_bytes.Given as goal

abbrev pub invariant-loop-k : goal.invariant-loop-k
invariant-loop-k l = Copied l.initial.out l.out l.at l.text l.k
