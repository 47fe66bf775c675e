-- `preparing::due_by` meets its contract. Assumes nothing.
use Rattle.spares.proofs.PlaceLaws.{pickable}
use Rattle.preparing.proofs.RuleLaws.{own_dues, farthest_asks, turned_asks, farthest_dues}
use Rattle.preparing.proofs.due_by.Goals as goal

pub picked-requires : goal.picked-requires
picked-requires c =
    let (s, W, U, hl) = c.requires in
    pickable U

pub returns-in-Marks : goal.returns-in-Marks
returns-in-Marks c = λ s W U hl. own_dues W c.in-Marks.is U c.picked.ensures

pub overruns-farthest-requires : goal.overruns-farthest-requires
overruns-farthest-requires c =
    let (s, W, U, hl) = c.requires in
    farthest_asks W c.in-Spread.is c.of_number-zero.ensures U hl

pub rest-requires : goal.rest-requires
rest-requires c =
    let (s, W, U, hl) = c.requires in
    turned_asks W c.in-Spread.is c.of_number-zero.ensures U hl c.overruns-farthest.ensures

pub returns-in-Spread : goal.returns-in-Spread
returns-in-Spread c = λ s W U hl. farthest_dues W c.in-Spread.is c.of_number-zero.ensures U hl c.overruns-farthest.ensures c.rest.ensures
