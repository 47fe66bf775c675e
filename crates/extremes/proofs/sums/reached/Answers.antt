-- `extremes::sums::reached` meets its contract. The places passed that have the word are marked, and none is beyond the word. Assumes nothing.
use Prim.Native.Nat.{◌<◌}
use native.Mathlib.Omega.{arith}
use borrow.Author.Count as count
use Rattle.tables.specs.Held.{meant, meant_v}
use Rattle.trigger_sets.proofs.SetLaws.{passed_more, passed_less}
use Rattle.words.proofs.Laws.{same_word, other_word, within_word, beyond_word}
use Rattle.extremes.proofs.ClosureLaws.{bit_shifted, reached_none}
use Rattle.extremes.proofs.sums.reached.Goals as goal
use Rattle.extremes.proofs.sums.reached.Goals.{then-sum-word, else-sum-word}

pub returns-then-word-sum : goal.returns-then-word-sum
unfolding meant meant_v
returns-then-word-sum c = reached_none _ _ _ _ (omega arith) (beyond_word c.plus-sum.ensures c.if-word-sum.true)

pub loop-j-preserved : goal.loop-j-preserved
unfolding meant meant_v
loop-j-preserved c =
    let e = c.plus-sum.ensures in let h : c.loop-j.j < 6 = omega arith in (
      elim c.if-sum-word.branch [
        | then-sum-word w ↦ rw (w.set-is, bit_shifted) (passed_more _ _ _ h c.loop-j.invariant.0 (same_word e w.if-sum-word.true))
        | else-sum-word w ↦ rw w.set-is (passed_less _ _ _ c.loop-j.invariant.0 (other_word e w.if-sum-word.false))
      ],
      count.below_more _ _ c.loop-j.invariant.1 (within_word e c.if-word-sum.false),
    )
