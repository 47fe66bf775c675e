-- `rows::first_fault` meets its contract. Loop invariants: the kinds passed are no fault of the line, and the items passed do not have the fault
-- of this kind. Assumes nothing.
use mathlib.Core.Path.{refl, sym, subst, ◌∙◌}
use native.Mathlib.Omega.{arith}
use lib.ListN.{length-take}
use Rattle.std.proofs.Common.{below_more}
use Rattle.rows.specs.Inner.{content_of, FaultIs}
use Rattle.rows.proofs.FaultLaws.{taken, asked_none, asked_all, asked_hit, asked_more}
use Rattle.rows.proofs.first_fault.Goals as goal

pub kinds-init : goal.kinds-init
kinds-init c = (asked_none, refl)

pub kinds-preserved : goal.kinds-preserved
kinds-preserved c =
    let l = c.loop-word in
    let six = c.requires in
    let long = c.told-row in
    let all = length-take c.args.count c.args.row.now in (
      asked_more c.kinds.invariant.0 (content_of c.args.content) c.faults_of-fault-items.ensures c.kinds-test.true refl six
          (λ j h. l.invariant.0 j (omega arith)),
      l.invariant.1,
    )

pub loop-word-preserved : goal.loop-word-preserved
loop-word-preserved c =
    let there = c.loop-word-test.true in (
      below_more _ _ c.loop-word.invariant.0 (rw (taken c.args.row.now c.args.count c.loop-word.word-index 0 there) at (sym c.met_by.ensures ∙ c.if-met_by.false)),
      c.loop-word.invariant.1,
    )

pub returns-then-met_by : goal.returns-then-met_by
returns-then-met_by c =
    let there = c.loop-word-test.true in
    let six = c.requires in
    let all = length-take c.args.count c.args.row.now in
    asked_hit c.kinds.invariant.0 (content_of c.args.content) c.faults_of-fault-items.ensures c.kinds-test.true refl six c.loop-word.word-index
    (omega arith) (rw (taken c.args.row.now c.args.count c.loop-word.word-index 0 there) at (sym c.met_by.ensures ∙ c.if-met_by.true))

pub returns-after-kinds : goal.returns-after-kinds
returns-after-kinds c =
    subst (FaultIs (content_of c.args.content) c.args.row.now c.args.count) (sym c.kinds.invariant.1)
    (asked_all c.kinds.invariant.0 (content_of c.args.content) c.faults_of-fault-items.ensures c.kinds-test.false)
