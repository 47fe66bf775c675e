-- `walk_cases::put_walk` is safe and ends. The loop's invariant: the state is one that the walk comes to. Assumes nothing.
use mathlib.Core.List.{[]}
use Rattle.walk.proofs.Stepping.{walked_start, walked_next, walked_less, end_ready}
use Rattle.walk_cases.proofs.put_walk.Goals as goal

pub loop-place-init : goal.loop-place-init
loop-place-init c =
    let l = c.args.levels.now in let p = c.requires in
    ([], rw c.start-w.ensures (walked_start l.kept.now l.gains.now l.needs.now l.count c.args.triggers p.0 p.1 p.2))

pub put_end-requires : goal.put_end-requires
put_end-requires c = end_ready c.step-s.ensures c.in-End.is c.loop-place.invariant.1.ready

pub loop-place-smaller : goal.loop-place-smaller
loop-place-smaller c = walked_less c.loop-place.invariant.1 c.step-s.ensures c.in-Selection.is

pub loop-place-preserved : goal.loop-place-preserved
loop-place-preserved c = (_, walked_next c.loop-place.invariant.1 c.step-s.ensures c.in-Selection.is)
