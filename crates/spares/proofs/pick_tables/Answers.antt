-- `spares::pick_tables` meets its contract: with no spare trigger the tables stay, otherwise they are picked. Assumes nothing.
use Rattle.spares.proofs.PlaceLaws.{pickable}
use Rattle.spares.proofs.PickedLaws.{tables_stay}
use Rattle.spares.proofs.pick_tables.Goals as goal

pub returns-then-p-eq0 : goal.returns-then-p-eq0
returns-then-p-eq0 c = λ s n h. tables_stay h c.if-p-eq0.true

pub picked_columns-requires : goal.picked_columns-requires
picked_columns-requires c = let (few, (s, n, h)) = c.requires in (few, pickable h)

pub picked_rows-rows-requires : goal.picked_rows-rows-requires
picked_rows-rows-requires c = let (few, (s, n, h)) = c.requires in pickable h

pub picked_columns-requires-2 : goal.picked_columns-requires-2
picked_columns-requires-2 c =
    let (few, (s, n, h)) = c.requires in
    let q = pickable h in (q.few, q)
