-- `extremes::sums::places` meets its contract. The places passed that have the word are marked. Assumes nothing.
use Prim.Native.Nat.{◌<◌}
use native.Mathlib.Omega.{arith}
use Rattle.tables.specs.Held.{meant, meant_v}
use Rattle.trigger_sets.proofs.SetLaws.{passed_more, passed_less}
use Rattle.extremes.proofs.ClosureLaws.{bit_shifted}
use Rattle.words.proofs.Laws.{same_word, other_word}
use Rattle.extremes.proofs.sums.places.Goals as goal
use Rattle.extremes.proofs.sums.places.Goals.{then-plus-word, else-plus-word}

pub loop-j-preserved : goal.loop-j-preserved
unfolding meant meant_v
loop-j-preserved c =
    let e = c.plus.ensures in let h : c.loop-j.j < 6 = omega arith in
    elim c.if-plus-word.branch [
      | then-plus-word w ↦ rw (w.set-is, bit_shifted) (passed_more _ _ _ h c.loop-j.invariant (same_word e w.if-plus-word.true))
      | else-plus-word w ↦ rw w.set-is (passed_less _ _ _ c.loop-j.invariant (other_word e w.if-plus-word.false))
    ]
