-- `keeping::kept_table` meets its contract: the walk over the levels is document 01's. Assumes nothing.
use mathlib.Core.Path.{◌≡◌, ap, sym, ◌∙◌}
use Rattle.std.specs.Prelude.{Err}
use mir.Syntax.{w64}
use mir.Val.{to_z, of_z}
use mir.Facts.{to_z-of_z}
use Rattle.maxplus.proofs.EntryLaws.{num_inj}
use Rattle.std.proofs.lemmas.Result.{err_from_is_err_and}
use Rattle.refusals.proofs.NumberLaws.{of_number}
use Rattle.keeping.specs.Keeping.{kept_answer}
use Rattle.keeping.proofs.KeptLaws.{walked_answer, keeping_of}
use Rattle.keeping.proofs.kept_table.Goals as goal

pub prepare-requires : goal.prepare-requires
prepare-requires c = (_, c.read_sheet-reading.ensures)

pub returns-in_err-prepared : goal.returns-in_err-prepared
returns-in_err-prepared c =
    let p = err_from_is_err_and c.from_residual.result c.from_residual.ensures.1 in
    rw (p.1, p.2) (ap Err (sym (of_number _)) ∙ ap kept_answer (keeping_of _ (c.in_err-prepared.ensures _ c.read_sheet-reading.ensures)))

pub count-counts-requires : goal.count-counts-requires
count-counts-requires c =
    let (s, x, q, Q) = c.in_ok-prepared.ensures _ c.read_sheet-reading.ensures in
    (Q.marked.some_levels, Q.marked.few_levels, Q.marked.follows.small)

pub laid_sets-kept-requires : goal.laid_sets-kept-requires
laid_sets-kept-requires c =
    let (s, x, q, Q) = c.in_ok-prepared.ensures _ c.read_sheet-reading.ensures in
    (_, _, Q.placed)

pub number-requires : goal.number-requires
number-requires c =
    let (s, x, q, Q) = c.in_ok-prepared.ensures _ c.read_sheet-reading.ensures in
    Q.marked.word

pub returns : goal.returns
returns c =
    let (s, x, q, Q) = c.in_ok-prepared.ensures _ c.read_sheet-reading.ensures in
    let z : to_z w64 (of_z w64 c.number.result) ≡ c.number.result = to_z-of_z {w = w64} (record { sfits = c.number.type_inv }) in
    walked_answer s x Q.placed.few Q.marked _ (z ∙ num_inj (sym c.number.ensures ∙ Q.marked.deviation))
    _ (c.laid_sets-kept.ensures _ _ Q.placed) _ c.ones_of.ensures _ c.count-counts.ensures ∙
    ap kept_answer (keeping_of _ q)
