-- `laying::cap::put_capped` meets its contract: the words of the line are copied between its count and its cap.
use native.Mathlib.Omega.{arith}
use mir.Syntax.{w32}
use mir.Facts.{to_z_pos, to_z-of_z}
use Rattle.laying.proofs.CapLaws.{put_all}
use Rattle.laying.proofs.cap.put_capped.Goals as goal

pub returns : goal.returns
returns c =
    put_all c.args.space.now c.args.at c.requires.1 c.requires.2 (to_z_pos w32 {n = c.args.n} (omega (arith, c.requires.0)))
    (to_z-of_z c.ranges.cap) c.copy_from_slice.ensures.after
