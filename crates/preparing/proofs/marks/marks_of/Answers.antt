-- `marks::marks_of` meets its contract: each step gives what the next asks. Assumes nothing.
use Rattle.preparing.proofs.Laws.{six_panels, floors_near, pulls_ask, pulls_near, least_ask, least_near, asks_ask, levels_few, levels_near, marked_as}
use Rattle.preparing.proofs.marks.marks_of.Goals as goal

pub pulls-pulls-requires : goal.pulls-pulls-requires
pulls-pulls-requires c = let (P, A, L, F) = c.requires in pulls_ask F

pub least-least-requires : goal.least-least-requires
least-least-requires c = let (P, A, L, F) = c.requires in least_ask F c.pulls-pulls.ensures

pub kept-kept-requires : goal.kept-kept-requires
kept-kept-requires c =
    let (P, A, L, F) = c.requires in
    (six_panels F, F.held.few, pulls_near F c.pulls-pulls.ensures, floors_near F, least_near F c.pulls-pulls.ensures _ c.least-least.ensures)

pub less-asks-requires : goal.less-asks-requires
less-asks-requires c = let (P, A, L, F) = c.requires in asks_ask F c.pulls-pulls.ensures _ c.least-least.ensures

pub compared-requires : goal.compared-requires
compared-requires c =
    let (P, A, L, F) = c.requires in (
      levels_few F c.pulls-pulls.ensures _ c.least-least.ensures c.kept-kept.ensures c.pack-packed.ensures,
      F.held.few,
      levels_near F c.pulls-pulls.ensures _ c.least-least.ensures c.kept-kept.ensures c.pack-packed.ensures c.less-asks.ensures,
    )

pub returns : goal.returns
returns c = λ P A L F. marked_as F c.pulls-pulls.ensures _ c.least-least.ensures c.kept-kept.ensures c.pack-packed.ensures c.less-asks.ensures c.compared.ensures
