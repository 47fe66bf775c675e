-- `reading::read_sized` meets its contract. Assumes nothing.
use mathlib.Core.Path.{ap, sym, ◌∙◌}
use mathlib.Core.List.{[]}
use lib.ListN.{get_or, length-drop}
use Rattle.std.specs.Prelude.{Ok, option_map}
use Rattle.std.proofs.lemmas.Result.{err_from_is_err_and}
use Rattle.sheet.specs.Text.{bytes}
use Rattle.sheet.proofs.SectionLaws.{sized_land, sized_last, sized_read}
use Rattle.reading.specs.Reading.{answer}
use Rattle.reading.specs.Inner.{Kinds}
use Rattle.reading.proofs.SizedLaws.{lag_refused, floor_refused, due_refused, after_refused, tables_read}
use Rattle.reading.proofs.WordsLaws.{words_read}
use Rattle.reading.proofs.AnswerLaws.{refused_answer}
use Rattle.reading.proofs.read_sized.Goals as goal

pub returns-in_err-at : goal.returns-in_err-at
unfolding bytes
returns-in_err-at c =
    let p = err_from_is_err_and c.from_residual.result c.from_residual.ensures.1 in
    rw (p.1, p.2) (refused_answer _ (lag_refused c.args.ruled c.args.panels c.args.triggers _ _ c.in_err-at.ensures))

pub returns-in_err-at-2 : goal.returns-in_err-at-2
unfolding bytes
returns-in_err-at-2 c =
    let p = err_from_is_err_and c.from_residual-in_err-at-2.result c.from_residual-in_err-at-2.ensures.1 in
    let l = c.in_ok-at.ensures in
    rw (p.1, p.2) (refused_answer _ (floor_refused c.args.ruled c.args.panels c.args.triggers _ _ _ l.is _ (rw c.mark_lines-marks.ensures at c.in_err-at-2.ensures)))

pub returns-in_err-at-3 : goal.returns-in_err-at-3
unfolding bytes
returns-in_err-at-3 c =
    let p = err_from_is_err_and c.from_residual-in_err-at-3.result c.from_residual-in_err-at-3.ensures.1 in
    let k = rw c.mark_lines-marks.ensures at c.in_ok-at-2.ensures in
    rw (p.1, p.2) (refused_answer _ (due_refused c.args.ruled c.args.panels c.args.triggers _ _ _ c.in_ok-at.ensures.is _ _ k.is _
    (rw c.mark_lines-marks.ensures at c.in_err-at-3.ensures)))

pub returns-in_err-at-4 : goal.returns-in_err-at-4
unfolding bytes
returns-in_err-at-4 c =
    let p = err_from_is_err_and c.from_residual-in_err-at-4.result c.from_residual-in_err-at-4.ensures.1 in
    let k = rw c.mark_lines-marks.ensures at c.in_ok-at-2.ensures in
    let d = rw c.mark_lines-marks.ensures at c.in_ok-at-3.ensures in
    rw (p.1, p.2) (refused_answer _ (after_refused c.args.ruled c.args.panels c.args.triggers _ _ _ c.in_ok-at.ensures.is _ _ k.is _ _ d.is _
    c.in_err-at-4.ensures))

pub returns-in_err-land : goal.returns-in_err-land
unfolding bytes
returns-in_err-land c =
    let p = err_from_is_err_and c.from_residual-in_err-land.result c.from_residual-in_err-land.ensures.1 in
    let k = rw c.mark_lines-marks.ensures at c.in_ok-at-2.ensures in
    let d = rw c.mark_lines-marks.ensures at c.in_ok-at-3.ensures in
    let tables = tables_read c.args.ruled c.args.panels c.args.triggers _ _ _ c.in_ok-at.ensures.is _ _ k.is _ _ d.is _ _ c.in_ok-at-4.ensures.is in
    rw (p.1, p.2) (refused_answer _ (sized_land c.args.ruled c.args.panels c.args.triggers _ _ _ tables _ c.in_err-land.ensures))

pub returns-in_err-last : goal.returns-in_err-last
unfolding bytes
returns-in_err-last c =
    let p = err_from_is_err_and c.from_residual-in_err-last.result c.from_residual-in_err-last.ensures.1 in
    let k = rw c.mark_lines-marks.ensures at c.in_ok-at-2.ensures in
    let d = rw c.mark_lines-marks.ensures at c.in_ok-at-3.ensures in
    let tables = tables_read c.args.ruled c.args.panels c.args.triggers _ _ _ c.in_ok-at.ensures.is _ _ k.is _ _ d.is _ _ c.in_ok-at-4.ensures.is in
    rw (p.1, p.2) (refused_answer _ (sized_last c.args.ruled c.args.panels c.args.triggers _ _ _ tables _ _ c.in_ok-land.ensures.is _
    c.in_err-last.ensures))

pub returns-in_err-check : goal.returns-in_err-check
unfolding bytes
returns-in_err-check c =
    let p = err_from_is_err_and c.from_residual-in_err-check.result c.from_residual-in_err-check.ensures.1 in
    let k = rw c.mark_lines-marks.ensures at c.in_ok-at-2.ensures in
    let d = rw c.mark_lines-marks.ensures at c.in_ok-at-3.ensures in
    let a = c.in_ok-at-4.ensures in
    let land = c.in_ok-land.ensures in
    let last = c.in_ok-last.ensures in
    let tables = tables_read c.args.ruled c.args.panels c.args.triggers _ _ _ c.in_ok-at.ensures.is _ _ k.is _ _ d.is _ _ a.is in
    let K : Kinds c.args.ruled c.args.panels c.args.triggers _ _ _ =
    record { start = _; behind = _; past_land = _; past_last = _; of_tables = tables; of_land = land.is; of_last = last.is } in
    let w = words_read K c.in_ok-at.ensures.words k.words d.words a.words c.measure_of.ensures land.words
    (c.first_row.ensures ∙ ap (option_map (λ ws. get_or ws 0 [])) last.words) in
    rw (p.1, p.2) (refused_answer _ (sized_read c.args.ruled c.args.panels c.args.triggers _ _ _ tables _ _ land.is _ _ last.is ∙
    c.in_err-check.ensures c.args.ruled c.args.panels c.args.triggers _ _ _ _ c.requires.1 c.requires.2 K w (length-drop _ _)))

pub returns : goal.returns
unfolding bytes
returns c =
    let k = rw c.mark_lines-marks.ensures at c.in_ok-at-2.ensures in
    let d = rw c.mark_lines-marks.ensures at c.in_ok-at-3.ensures in
    let a = c.in_ok-at-4.ensures in
    let land = c.in_ok-land.ensures in
    let last = c.in_ok-last.ensures in
    let tables = tables_read c.args.ruled c.args.panels c.args.triggers _ _ _ c.in_ok-at.ensures.is _ _ k.is _ _ d.is _ _ a.is in
    let K : Kinds c.args.ruled c.args.panels c.args.triggers _ _ _ =
    record { start = _; behind = _; past_land = _; past_last = _; of_tables = tables; of_land = land.is; of_last = last.is } in
    let w = words_read K c.in_ok-at.ensures.words k.words d.words a.words c.measure_of.ensures land.words
    (c.first_row.ensures ∙ ap (option_map (λ ws. get_or ws 0 [])) last.words) in
    ap Ok w ∙ sym (ap answer (sized_read c.args.ruled c.args.panels c.args.triggers _ _ _ tables _ _ land.is _ _ last.is ∙
    c.in_ok-check.ensures c.args.ruled c.args.panels c.args.triggers _ _ _ _ c.requires.1 c.requires.2 K w (length-drop _ _)))
