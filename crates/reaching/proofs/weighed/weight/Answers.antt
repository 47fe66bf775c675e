-- `reaching::weighed::weight` meets its contract. Assumes nothing.
use mathlib.Core.Path.{ap₂, ◌∙◌}
use mathlib.Core.Path.{◌≡◌}
use mathlib.Core.List.{List}
use Prim.Native.Nat.{ℕ, ◌+◌}
use Rattle.cue.specs.Cue.{overdue}
use Rattle.words.specs.Words.{entry}
use Rattle.tables.specs.Held.{CloselyV, meant_v}
use native.Mathlib.Omega.{arith}
use Rattle.maxplus.specs.Entry.{◌⊗◌, inv}
use Rattle.maxplus.proofs.EntryLaws.{⊗_unit}
use Rattle.sheet.specs.Times.{far_limit}
use Rattle.words.specs.Words.{signed_far, Close}
use Rattle.words.proofs.Laws.{close_more, close_minus}
use Rattle.tables.proofs.LargestLaws.{close_overdue}
use Rattle.moments.proofs.MomentLaws.{zero_is}
use Rattle.reaching.proofs.weighed.weight.Goals as goal

-- how far the largest c(j) − g(j) is from 0
past_close : (n w : ℕ) {x y : List ℕ} (a : CloselyV n far_limit x) (b : CloselyV n signed_far y) →
    entry w ≡ overdue n (meant_v x) (meant_v y) → Close (far_limit + signed_far) w
past_close n w a b e = let q = close_overdue _ a b e in close_more (omega arith) q

pub minus-requires : goal.minus-requires
minus-requires c =
    let p = c.requires in
    let past = past_close _ _ p.1 p.2 c.overdue-past.ensures in
    (close_more (omega arith) (zero_is c.of_number.ensures).1, close_more (omega arith) past)

pub returns-clause-is : goal.returns-clause-is
returns-clause-is c =
    let zero = (zero_is c.of_number.ensures).0 in
    c.minus.ensures ∙ ap₂ (λ a b. a ⊗ inv b) zero c.overdue-past.ensures ∙ ⊗_unit _

pub returns-clause-near : goal.returns-clause-near
returns-clause-near c =
    let p = c.requires in
    let past = past_close _ _ p.1 p.2 c.overdue-past.ensures in
    close_more (omega arith) (close_minus _ _ _ c.minus.ensures (zero_is c.of_number.ensures).1 past)
