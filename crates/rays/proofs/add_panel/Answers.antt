-- `rays::add_panel` meets its contract: all rays meet the panel, or not all had their turn, or what came of them is kept.
use native.Mathlib.Omega.{arith}
use Rattle.tables.proofs.Loops.{says_true}
use Rattle.rays.proofs.RayLaws.{added_as_it_is, added_kept}
use Rattle.rays.proofs.add_panel.Goals as goal

pub returns-then-all_meet : goal.returns-then-all_meet
returns-then-all_meet c = (c.requires.4, added_as_it_is c.requires.3 c.requires.2 (says_true c.all_meet.result c.if-all_meet.true c.all_meet.ensures))

pub returns : goal.returns
returns c =
    let (a, b, q) = c.expand-to.ensures in let (k, e) = c.keep.ensures in
    (q.size, rw e (added_kept (omega (arith, b)) q k))
