-- `reading::empty_row` meets its contract. Assumes nothing.
use mathlib.Core.Path.{sym}
use mathlib.Core.List.{[]}
use native.Mathlib.Omega.{arith}
use lib.ListN.{length-take}
use Rattle.std.proofs.Common.{below_more}
use Rattle.rows.proofs.FaultLaws.{taken}
use Rattle.reading.proofs.EmptyLaws.{empty_found, empty_none}
use Rattle.reading.proofs.empty_row.Goals as goal

pub returns-then-empty : goal.returns-then-empty
returns-then-empty c =
    λ n t few R e.
    let there = c.loop-row-test.true in
    let long = length-take c.args.lines c.args.rows.now in
    sym (empty_found c.args.rows.now c.args.lines n t c.requires few R e c.loop-row.row-index (omega arith)
    (rw (taken c.args.rows.now c.args.lines c.loop-row.row-index [] there) at c.if-empty.ensures))

pub loop-row-preserved : goal.loop-row-preserved
loop-row-preserved c =
    below_more _ _ c.loop-row.invariant (rw (taken c.args.rows.now c.args.lines c.loop-row.row-index [] c.loop-row-test.true) at c.if-empty.ensures)

pub returns : goal.returns
returns c =
    λ n t few R e.
    let all = c.loop-row-test.false in
    let long = length-take c.args.lines c.args.rows.now in
    let six = c.told-rows in
    let less = c.requires in
    sym (empty_none c.args.rows.now c.args.lines n t less few R e (λ k h. c.loop-row.invariant k (omega arith)))
