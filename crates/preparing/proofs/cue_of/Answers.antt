-- `preparing::cue_of` meets its contract: what is picked from a sheet's words at the triggers in use are its cue's. Assumes nothing.
use mathlib.Core.Path.{sym}
use Rattle.preparing.proofs.Preparing.{panels_few, lags_of, places_used, lags_picked, cue_words}
use Rattle.preparing.proofs.cue_of.Goals as goal

pub pick_tables-requires : goal.pick_tables-requires
pick_tables-requires c =
    let (s, W) = c.requires in let lags = (rw (sym c.copy_rows.ensures) at (lags_of W)) in
    (panels_few W, (_, _, places_used W (c.order_of.ensures s W) lags c.places_of-places.ensures))

pub due_by-due-requires : goal.due_by-due-requires
due_by-due-requires c =
    let (s, W) = c.requires in let lags = (rw (sym c.copy_rows.ensures) at (lags_of W)) in
    let U = places_used W (c.order_of.ensures s W) lags c.places_of-places.ensures in
    (s, W, U, lags_picked W U (c.pick_tables.ensures _ _ U) lags)

pub returns : goal.returns
returns c = λ s W.
    let orders = c.order_of.ensures s W in let lags = (rw (sym c.copy_rows.ensures) at (lags_of W)) in
    let U = places_used W orders lags c.places_of-places.ensures in
    let T = c.pick_tables.ensures _ _ U in
    record {
      sized = U.count_is;
      placed = U;
      held = cue_words W U orders lags T (c.floor_by-floor.ensures s W) (c.due_by-due.ensures s W U (lags_picked W U T lags));
    }
