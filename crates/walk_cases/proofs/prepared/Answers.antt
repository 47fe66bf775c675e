-- `walk_cases::prepared` meets its contract. Assumes nothing.
use Rattle.walk_cases.proofs.prepared.Goals as goal

pub prepare-requires : goal.prepare-requires
prepare-requires c = (_, c.read_sheet.ensures)

pub returns : goal.returns
returns c =
    let (s, x, q, Q) = c.in_ok-prepared.ensures _ c.read_sheet.ensures in
    (Q.marked.some_levels, Q.marked.few_levels, Q.marked.follows.small)
