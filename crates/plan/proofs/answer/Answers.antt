-- `plan::answer` meets its contract: each text is the text of the program's outcome, by whether the list has more than 2,000 lines. Assumes nothing.
use mathlib.Core.Path.{◌∙◌}
use borrow.Author.Rules.{rules}
use Rattle.plan.proofs.Laws.{none_out, none_complaint, full_out, full_complaint, few_out, plan_out, quiet_out, bytes_for, words_for}
use Rattle.plan.proofs.answer.Goals as goal

pub returns-in-Err-clause-out_after : goal.returns-in-Err-clause-out_after
returns-in-Err-clause-out_after c = c.refused.ensures.text.text ∙ none_out _ _ (search rules) c.plan.ensures.answer _ c.in-Err.is

pub returns-in-Err-clause-errors_after : goal.returns-in-Err-clause-errors_after
returns-in-Err-clause-errors_after c = c.refused.ensures.complaint.text ∙ none_complaint _ _ (search rules) c.plan.ensures.answer _ c.in-Err.is

pub returns-then-plan-gt-LINES-clause-out_after : goal.returns-then-plan-gt-LINES-clause-out_after
returns-then-plan-gt-LINES-clause-out_after c =
    c.refused-then-plan-gt-LINES.ensures.text.text ∙
    full_out _ _ (search rules) c.plan.ensures.answer _ c.in-Ok.is c.if-plan-gt-LINES.true

pub returns-then-plan-gt-LINES-clause-errors_after : goal.returns-then-plan-gt-LINES-clause-errors_after
returns-then-plan-gt-LINES-clause-errors_after c =
    c.refused-then-plan-gt-LINES.ensures.complaint.text ∙
    full_complaint _ _ (search rules) c.plan.ensures.answer _ c.in-Ok.is c.if-plan-gt-LINES.true

pub planned_text-planned-requires : goal.planned_text-planned-requires
planned_text-planned-requires c =
    let q = c.if-plan-gt-LINES.false in
    let (triggers, wide, words) = few_out _ _ (search rules) c.plan.ensures.answer _ c.in-Ok.is q in
    (bytes_for _ _ (search rules) q, triggers, wide, words_for _ _ (search rules) words)

pub returns-clause-out_after : goal.returns-clause-out_after
returns-clause-out_after c =
    let p = c.plan.ensures in
    plan_out _ _ (search rules) p.answer _ c.in-Ok.is c.if-plan-gt-LINES.false _ p.written _ c.planned_text-planned.ensures.text

pub returns-clause-errors_after : goal.returns-clause-errors_after
returns-clause-errors_after c = quiet_out _ _ (search rules) c.plan.ensures.answer _ c.in-Ok.is c.if-plan-gt-LINES.false
