-- `tables::unit_at` meets its contract. Assumes nothing.
use Rattle.tables.proofs.SquareLaws.{unit_same, unit_other}
use Rattle.tables.proofs.unit_at.Goals as goal

pub returns-then-i-j : goal.returns-then-i-j
returns-then-i-j c = unit_same _ _ _ c.positive.ensures c.if-i-j.true

pub returns-else-i-j : goal.returns-else-i-j
returns-else-i-j c = unit_other _ _ c.if-i-j.false
