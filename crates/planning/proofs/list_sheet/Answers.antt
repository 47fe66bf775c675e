-- `planning::list_sheet` meets its contract: the cue's list, finished, is the sheet's. Assumes nothing.
use Rattle.std.proofs.lemmas.Result.{err_from_is_err_and}
use Rattle.sheet.specs.Cue.{cue_of}
use Rattle.laying.proofs.WidthLaws.{room_same}
use Rattle.laying.proofs.SheetLaws.{listing, listed_lines, listed_full}
use Rattle.planning.proofs.list_sheet.Goals as goal

pub returns-in_err-count : goal.returns-in_err-count
returns-in_err-count c =
    λ s M w.
    let p = err_from_is_err_and c.from_residual.result c.from_residual.ensures.1 in
    rw (p.1, p.2) (listed_full s M.marked.triggers_are _ (room_same _ w) (c.in_err-count.ensures (cue_of s) M.marked.prepared))

pub returns : goal.returns
returns c =
    λ s M w.
    let a = c.in_ok-count.ensures (cue_of s) M.marked.prepared in
    listed_lines s M.marked.triggers_are _ (room_same _ w) a
    (c.finish.ensures s _ (listing s M.marked.triggers_are _ (room_same _ w) M.good M.order M.placed M.moments a))
