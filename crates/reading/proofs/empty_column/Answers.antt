-- `reading::empty_column` meets its contract. Assumes nothing.
use mathlib.Core.Path.{sym, ◌∙◌}
use mathlib.Core.List.{[]}
use native.Mathlib.Omega.{arith}
use lib.ListN.{length-take}
use Rattle.sheet.proofs.Idle.{none_yes, none_no}
use Rattle.rows.proofs.FaultLaws.{taken}
use Rattle.std.proofs.Common.{below_more}
use Rattle.reading.proofs.empty_column.Goals as goal

pub loop-row-preserved : goal.loop-row-preserved
loop-row-preserved c =
    below_more _ _ c.loop-row.invariant
    (rw (taken c.args.rows.now c.args.lines c.loop-row.row-index [] c.loop-row-test.true) at (sym c.present.ensures ∙ c.if-present.false))

pub returns-then-present : goal.returns-then-present
returns-then-present c =
    let there = c.loop-row-test.true in
    let long = length-take c.args.lines c.args.rows.now in
    sym (none_no c.args.lines _ c.loop-row.row-index (omega arith)
    (rw (taken c.args.rows.now c.args.lines c.loop-row.row-index [] there) at (sym c.present.ensures ∙ c.if-present.true)))

pub returns : goal.returns
returns c =
    let all = c.loop-row-test.false in
    let long = length-take c.args.lines c.args.rows.now in
    let six = c.told-rows in
    let few = c.requires.0 in
    sym (none_yes c.args.lines _ (λ i h. c.loop-row.invariant i (omega arith)))
