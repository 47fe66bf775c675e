-- `rows::read_rows` meets its contract. Loop invariants: what was read stands in front of what is left, and its words are stored. Assumes
-- nothing.
use mathlib.Core.Path.{◌≡◌}
use Rattle.std.specs.Prelude.{None}
use Rattle.rows.specs.Inner.{content_of}
use Rattle.rows.proofs.RowsLaws.{ItemsRead}
use Rattle.rows.proofs.RowsLaws.{RowsRead}
use Rattle.rows.proofs.read_rows.Given as goal

abbrev pub invariant-items : goal.invariant-items
invariant-items l = ItemsRead l.s l.initial.at l.count l.row l.at l.k × (l.met ≡ None)

abbrev pub invariant-lines : goal.invariant-lines
invariant-lines l = RowsRead l.s l.key l.from (content_of l.content) l.lines l.count l.rows l.at l.i × (l.met ≡ None)
