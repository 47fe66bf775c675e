-- `walk::count` meets its contract. The loop's invariant: the state is one that the walk comes to, after n selections.
use mathlib.Core.Path.{refl, ap, ap₂, ◌∙◌}
use mathlib.Core.List.{[], ◌∷◌, ◌++◌}
use Prim.Native.Nat.{ℕ}
use native.Mathlib.Omega.{arith}
use lib.ListN.{length, length-append}
use Rattle.walk.specs.State.{picked}
use Rattle.walk.proofs.Stepping.{walked_start, walked_next, walked_less, walked_few, walked_fixings, walked_all}
use Rattle.walk.proofs.count.Goals as goal

pub loop-n-init : goal.loop-n-init
loop-n-init c =
    let a = c.args in let p = c.requires in
    ([], refl, rw c.start-walk.ensures (walked_start a.levels.now.kept.now a.levels.now.gains.now a.levels.now.needs.now a.levels.now.count a.triggers p.0 p.1 p.2))

pub returns-in-End : goal.returns-in-End
returns-in-End c =
    let (seen, e, b) = c.loop-n.invariant in let s = c.step-s.ensures in let o = c.in-End.is in
    ap₂ (λ (k l : ℕ). record { steps = k; selections = l }) (walked_fixings b s o) (e ∙ ap length (walked_all b s o))

pub overflow_add-n : goal.overflow_add-n
overflow_add-n c =
    let (seen, e, b) = c.loop-n.invariant in
    omega (arith, e, walked_few b c.step-s.ensures c.in-Selection.is c.requires.1)

pub loop-n-smaller : goal.loop-n-smaller
loop-n-smaller c = walked_less c.loop-n.invariant.2 c.step-s.ensures c.in-Selection.is

pub loop-n-preserved : goal.loop-n-preserved
loop-n-preserved c =
    let (seen, e, b) = c.loop-n.invariant in
    let found = picked c.args.levels.now.count c.step-s.result.next.place.picks ∷ [] in
    (seen ++ found, omega (arith, e, length-append seen found), walked_next b c.step-s.ensures c.in-Selection.is)
