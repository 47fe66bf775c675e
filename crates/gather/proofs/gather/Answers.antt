-- `gather::gather` meets its contract: the lines of the first `t` triggers' rays have been considered.
use Rattle.std.proofs.Common.{refl}
use Rattle.candidates.proofs.DrawableLaws.{stars_close, pulls_close}
use Rattle.gather.proofs.SpreadLaws.{whole_first, turned_none, turned_more, turned_filled}
use Rattle.gather.proofs.gather.Goals as goal

pub loop-t-init : goal.loop-t-init
loop-t-init c = (refl, refl, turned_none c.requires.2)

pub first_ray-first-requires : goal.first_ray-first-requires
first_ray-first-requires c =
    let p = c.requires.0.1 in
    (p.few, c.loop-t-test.true, stars_close p, (pulls_close p).at _ c.loop-t-test.true)

pub conclude-requires : goal.conclude-requires
conclude-requires c =
    let s = c.args.sources in
    let l = c.loop-t in
    let (P, p) = c.requires.0 in
    let (z, y, d) = l.invariant in
    let w = c.carry-level.ensures.1 in (
      (P, _, p, d.gathered P p),
      c.requires.1,
      (
        l.t,
        c.loop-t-test.true,
        w.whole _ (whole_first s.marks.now s.star.now s.needs.now c.loop-t-test.true c.first_ray-first.ensures l.set.rows z),
      ),
      w.so_far,
      w.few,
      w.size,
    )

pub loop-t-preserved : goal.loop-t-preserved
loop-t-preserved c =
    let s = c.args.sources in
    let l = c.loop-t in
    let (z, y, d) = l.invariant in
    let (x, w) = c.carry-level.ensures in (
      w.size,
      x,
      turned_more c.loop-t-test.true d (c.conclude.ensures l.t c.loop-t-test.true
          (w.whole _ (whole_first s.marks.now s.star.now s.needs.now c.loop-t-test.true c.first_ray-first.ensures l.set.rows z))),
    )

pub returns : goal.returns
returns c = λ P p. turned_filled c.loop-t.invariant.2 c.loop-t-test.false P p
