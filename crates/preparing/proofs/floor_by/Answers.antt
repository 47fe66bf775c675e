-- `preparing::floor_by` meets its contract. Assumes nothing.
use Rattle.preparing.proofs.RuleLaws.{own_floors, floors_0}
use Rattle.preparing.proofs.floor_by.Goals as goal

pub returns-in-Marks : goal.returns-in-Marks
returns-in-Marks c = λ s W. own_floors W c.in-Marks.is

pub returns-in-Spread : goal.returns-in-Spread
returns-in-Spread c = λ s W. floors_0 W c.in-Spread.is c.of_number.ensures
