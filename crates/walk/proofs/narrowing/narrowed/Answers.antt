-- `walk::narrowing::narrowed` meets its contract. The loop's invariant: narrowing the mask by the picks that are left comes to the level's mask.
use mathlib.Core.Path.{◌≡◌, sym, ◌∙◌}
use native.Mathlib.Omega.{arith}
use lib.ListN.{get_or}
use Rattle.walk.specs.Trace.{serves}
use Rattle.walk.specs.State.{picked}
use Rattle.walk.proofs.PickLaws.{picked_length}
use Rattle.walk.proofs.NarrowLaws.{cut_small, narrow_start, narrow_next, narrow_end}
use Rattle.walk.proofs.narrowing.narrowed.Goals as goal

pub loop-i-init : goal.loop-i-init
loop-i-init c =
    let a = c.args in
    let q = picked a.k a.picks in
    (sym (narrow_start a.gains.now q a.k (picked_length a.k a.picks) a.kept.now), c.requires.2 a.k)

pub loop-i-preserved : goal.loop-i-preserved
loop-i-preserved c =
    let a = c.args in
    let q = picked a.k a.picks in
    let i = c.loop-i.i in
    let j = get_or q i 0 in (
      rw (c.cut_by-m.ensures, c.pick-j.ensures.is)
          (sym (narrow_next a.gains.now q a.k (picked_length a.k a.picks) i c.loop-i.m (omega arith)) ∙ c.loop-i.invariant.0),
      rw (c.cut_by-m.ensures, c.pick-j.ensures.is)
          (cut_small j (serves a.gains.now i j a.k) c.loop-i.m (rw c.pick-j.ensures.is at c.pick-j.ensures.trigger) c.loop-i.invariant.1),
    )

pub returns : goal.returns
returns c =
    let a = c.args in
    let l = c.loop-i in
    let e : l.i ≡ a.k = omega arith in
    (sym (narrow_end a.gains.now (picked a.k a.picks) a.k (picked_length a.k a.picks) l.m) ∙ (rw e at l.invariant.0), l.invariant.1)
