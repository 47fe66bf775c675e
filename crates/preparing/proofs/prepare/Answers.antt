-- `preparing::prepare` meets its contract. Assumes nothing.
use mathlib.Core.Path.{sym, ◌∙◌}
use Rattle.std.proofs.lemmas.Result.{err_from_is_err_and}
use Rattle.sheet.proofs.OrderedLaws.{ordered_refused}
use Rattle.preparing.proofs.Preparing.{reading_refused, reading_good}
use Rattle.preparing.proofs.prepare.Goals as goal

pub returns-in_err-sheet : goal.returns-in_err-sheet
returns-in_err-sheet c =
    λ b e.
    let p = err_from_is_err_and c.from_residual.result c.from_residual.ensures.1 in
    rw (p.1, p.2) (ordered_refused _ _ (reading_refused b (sym c.in_err-sheet.was ∙ e)))

pub prepare_sheet-requires : goal.prepare_sheet-requires
prepare_sheet-requires c =
    let (b, e) = c.requires in
    let (s, x, q, W) = reading_good b (sym c.in_ok-sheet.was ∙ e) in
    (s, W)

pub returns : goal.returns
returns c =
    λ b e.
    let (s, x, q, W) = reading_good b (sym c.in_ok-sheet.was ∙ e) in
    c.prepare_sheet.ensures b s x q W
