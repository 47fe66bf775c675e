-- `latest::answers` meets its contract. Assumes nothing.
use mathlib.Core.Path.{◌∙◌}
use native.Mathlib.Omega.{arith}
use borrow.Author.Rules.{rules}
use Rattle.latest.proofs.OutputLaws.{none_out, none_complaint, full_out, full_complaint, latest_few, latest_out, quiet_out}
use Rattle.latest.proofs.answers.Goals as goal

pub returns-in-Err-clause-out_after : goal.returns-in-Err-clause-out_after
returns-in-Err-clause-out_after c = c.refused.ensures.text.text ∙ none_out _ _ _ _ (search rules) c.latest_timing.ensures.answer _ c.in-Err.is

pub returns-in-Err-clause-errors_after : goal.returns-in-Err-clause-errors_after
returns-in-Err-clause-errors_after c =
    c.refused.ensures.complaint.text ∙ none_complaint _ _ _ _ (search rules) c.latest_timing.ensures.answer _ c.in-Err.is

pub returns-then-reached-gt-LINES-clause-out_after : goal.returns-then-reached-gt-LINES-clause-out_after
returns-then-reached-gt-LINES-clause-out_after c =
    c.refused-then-reached-gt-LINES.ensures.text.text ∙
    full_out _ _ _ _ (search rules) c.latest_timing.ensures.answer _ c.in-Ok.is c.if-reached-gt-LINES.true

pub returns-then-reached-gt-LINES-clause-errors_after : goal.returns-then-reached-gt-LINES-clause-errors_after
returns-then-reached-gt-LINES-clause-errors_after c =
    c.refused-then-reached-gt-LINES.ensures.complaint.text ∙
    full_complaint _ _ _ _ (search rules) c.latest_timing.ensures.answer _ c.in-Ok.is c.if-reached-gt-LINES.true

pub latest_text-latest-requires : goal.latest_text-latest-requires
latest_text-latest-requires c = (
  search rules,
  omega (arith, latest_few _ _ _ _ (search rules) c.latest_timing.ensures.answer _ c.in-Ok.is c.if-reached-gt-LINES.false),
)

pub returns-clause-out_after : goal.returns-clause-out_after
returns-clause-out_after c =
    c.latest_text-latest.ensures.text ∙ latest_out _ _ _ _ (search rules) c.latest_timing.ensures.answer _ c.in-Ok.is c.if-reached-gt-LINES.false

pub returns-clause-errors_after : goal.returns-clause-errors_after
returns-clause-errors_after c = quiet_out _ _ _ _ (search rules) c.latest_timing.ensures.answer _ c.in-Ok.is c.if-reached-gt-LINES.false
