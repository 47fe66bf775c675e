-- `walk::narrowing::narrowed` meets its contract. The loop's invariant: narrowing the mask by the picks that are left comes to the level's mask.
use mathlib.Core.Path.{◌≡◌}
use Prim.Native.Nat.{◌<◌}
use lib.ListN.{drop}
use Rattle.walk.specs.Trace.{narrow, mask_at}
use Rattle.walk.specs.State.{picked}
use Rattle.walk.proofs.narrowing.narrowed.Given as goal

abbrev pub invariant-loop-i : goal.invariant-loop-i
invariant-loop-i l =
    (narrow l.gains l.k (drop l.i (picked l.k l.picks)) l.i l.m ≡ mask_at l.kept l.gains (picked l.k l.picks)) × (l.m < 64)
