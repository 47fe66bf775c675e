-- `kept::answer` meets its contract: each text is the text of the table's outcome. Assumes nothing.
use mathlib.Core.Path.{◌∙◌}
use borrow.Author.Rules.{rules}
use Rattle.kept.proofs.Laws.{few_out, table_out, quiet, refusal_out, complaint_out, deviation_back}
use Rattle.kept.proofs.answer.Goals as goal

pub returns-in-Err-clause-out_after : goal.returns-in-Err-clause-out_after
returns-in-Err-clause-out_after c =
    (rw c.number-in-Err.ensures at c.refusal_text-refused.ensures.text) ∙ refusal_out _ c.kept_table.ensures _ c.in-Err.is

pub returns-in-Err-clause-errors_after : goal.returns-in-Err-clause-errors_after
returns-in-Err-clause-errors_after c =
    (rw c.number.ensures at c.advice_text-complaint.ensures.text) ∙ complaint_out _ c.kept_table.ensures _ c.in-Err.is

pub kept_text-listed-requires : goal.kept_text-listed-requires
kept_text-listed-requires c = (search rules, few_out _ c.kept_table.ensures _ c.in-Ok.is)

pub returns-clause-out_after : goal.returns-clause-out_after
returns-clause-out_after c =
    (rw (c.from.ensures, c.from-2.ensures) at c.kept_text-listed.ensures.text) ∙ deviation_back _ _ _ (search rules) ∙
    table_out _ c.kept_table.ensures _ c.in-Ok.is

pub returns-clause-errors_after : goal.returns-clause-errors_after
returns-clause-errors_after c = quiet _ c.kept_table.ensures _ c.in-Ok.is
