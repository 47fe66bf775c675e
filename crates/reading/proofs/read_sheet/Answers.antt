-- `reading::read_sheet` meets its contract. Assumes nothing.
use mathlib.Core.Path.{ap, sym, ◌∙◌}
use Rattle.std.proofs.lemmas.Result.{err_from_is_err_and}
use Rattle.refusals.specs.declared.Refusal.TheVariants as refusal
use Rattle.sheet.proofs.SectionLaws.{read_long, read_ruled, read_headed}
use Rattle.reading.specs.Reading.{answer}
use Rattle.reading.proofs.AnswerLaws.{refused_answer}
use Rattle.reading.proofs.read_sheet.Goals as goal

pub returns-then-s-gt-LONGEST : goal.returns-then-s-gt-LONGEST
returns-then-s-gt-LONGEST c = refused_answer refusal.SheetTooLong (read_long _ c.if-s-gt-LONGEST.true)

pub returns-in_err-ruled : goal.returns-in_err-ruled
returns-in_err-ruled c =
    let p = err_from_is_err_and c.from_residual.result c.from_residual.ensures.1 in
    rw (p.1, p.2) (refused_answer _ (read_ruled _ c.if-s-gt-LONGEST.false _ c.in_err-ruled.ensures))

pub returns : goal.returns
returns c = c.read_headed.ensures ∙ ap answer (sym (read_headed _ c.if-s-gt-LONGEST.false _ _ c.in_ok-ruled.ensures.0))
