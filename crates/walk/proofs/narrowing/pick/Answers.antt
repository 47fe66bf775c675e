-- `walk::narrowing::pick` meets its contract: three bits at the level's place.
use mathlib.Core.Path.{sym}
use Rattle.walk.proofs.PickLaws.{picked_at, trigger_at}
use Rattle.walk.proofs.narrowing.pick.Goals as goal

pub returns-clause-is : goal.returns-clause-is
returns-clause-is c =
    let a = c.args in
    let p = c.requires in
    sym (picked_at a.k a.picks a.i p.0)

pub returns-clause-trigger : goal.returns-clause-trigger
returns-clause-trigger c =
    let a = c.args in
    let p = c.requires in
    trigger_at a.k a.picks a.i p.0 p.2
