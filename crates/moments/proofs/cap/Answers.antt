-- `moments::cap` meets its contract. Late is the largest sum of the places passed. Assumes nothing.
use mathlib.Core.Path.{◌≡◌, ap₂, ◌∙◌}
use native.Mathlib.Omega.{arith}
use Rattle.maxplus.specs.Entry.{◌⊗◌, inv}
use Rattle.maxplus.proofs.EntryLaws.{⊗_unit}
use Rattle.words.proofs.Laws.{close_none, close_more, close_larger, close_plus, close_minus}
use Rattle.tables.specs.Held.{meant_v}
use Rattle.tables.proofs.Loops.{largest_none, largest_more}
use Rattle.moments.proofs.MomentLaws.{zero_is}
use Rattle.moments.proofs.cap.Goals as goal

pub loop-j-init : goal.loop-j-init
loop-j-init c = (largest_none _, close_none _)

pub loop-j-preserved : goal.loop-j-preserved
unfolding meant_v
loop-j-preserved c =
    let j = c.loop-j.j in (
      largest_more _ _ _ _ _ c.plus.ensures c.loop-j.invariant.0 c.larger-late.ensures,
      close_larger _ _ _ c.larger-late.ensures
          (close_plus _ _ _ c.plus.ensures (c.requires.2.at j (omega arith)) (c.requires.1.at j (omega arith))) c.loop-j.invariant.1,
    )

pub minus-requires : goal.minus-requires
minus-requires c = (close_more (omega arith) (zero_is c.of_number.ensures).1, close_more (omega arith) c.loop-j.invariant.1)

pub returns-clause-is : goal.returns-clause-is
returns-clause-is c =
    let (zero, close) = zero_is c.of_number.ensures in
    let e : c.loop-j.j ≡ c.args.n = omega arith in c.minus.ensures ∙ ap₂ (λ a b. a ⊗ inv b) zero (rw e at c.loop-j.invariant.0) ∙ ⊗_unit _

pub returns-clause-near : goal.returns-clause-near
returns-clause-near c =
    let (zero, close) = zero_is c.of_number.ensures in
    let e : c.loop-j.j ≡ c.args.n = omega arith in close_more (omega arith) (close_minus _ _ _ c.minus.ensures close c.loop-j.invariant.1)
