-- `rows::read_optional` meets its contract. Assumes nothing.
use Rattle.std.proofs.lemmas.Result.{err_from_is_err_and}
use Rattle.rows.proofs.RowsLaws.{lines_missing, lines_refused, lines_given}
use Rattle.rows.proofs.read_optional.Goals as goal

pub returns-then-not-literal_at : goal.returns-then-not-literal_at
returns-then-not-literal_at c = lines_missing _ _ _ _ _ _ c.if-not-literal_at.ensures c.requires.0

pub returns-in_err-next : goal.returns-in_err-next
returns-in_err-next c =
    let p = err_from_is_err_and c.from_residual.result c.from_residual.ensures.1 in
    rw (p.1, p.2) (lines_refused _ _ _ _ _ _ _ c.if-not-literal_at.ensures c.in_err-next.ensures)

pub returns : goal.returns
returns c = lines_given _ _ _ _ _ _ c.if-not-literal_at.ensures c.in_ok-next.ensures
