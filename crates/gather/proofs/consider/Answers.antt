-- `gather::consider` meets its contract, by the test at which the line is left, if it is.
use Rattle.tables.proofs.Loops.{says_true, says_false}
use Rattle.candidates.proofs.DrawableLaws.{ready}
use Rattle.gather.proofs.GatherLaws.{gathered_ordered, not_above, not_fresh, not_extreme, put_in}
use Rattle.gather.proofs.consider.Goals as goal

pub returns-then-not-below : goal.returns-then-not-below
returns-then-not-below c =
    λ P needs C p x s.
    let q = c.requires in
    not_above p.few q.1 q.3 s (says_false c.below.result c.if-not-below.true c.below.ensures)

pub place-at-requires : goal.place-at-requires
place-at-requires c =
    let q = c.requires in let g = q.0.4 in
    (g.stored.few, gathered_ordered q.0.3.few q.1 q.3 g)

pub returns-then-not-fresh : goal.returns-then-not-fresh
returns-then-not-fresh c =
    λ P needs C p x s.
    let q = c.requires in
    not_fresh p.few q.1 q.3 s c.place-at.result c.place-at.ensures
    (says_false c.fresh.result c.if-not-fresh.true c.fresh.ensures)

pub returns-then-known : goal.returns-then-known
returns-then-known c =
    λ P needs C p x s.
    let q = c.requires in
    let b = says_true c.below.result c.if-not-below.false c.below.ensures in
    let f = says_true c.fresh.result c.if-not-fresh.false c.fresh.ensures in
    put_in p.few q.1 q.3 s _ _ _ b c.place-at.ensures f (x c.if-known.true) c.insert.ensures

pub extreme-requires : goal.extreme-requires
extreme-requires c = let q = c.requires in (rw q.2 (ready q.0.3), q.2, rw q.2 q.4)

pub returns-then-not-extreme : goal.returns-then-not-extreme
returns-then-not-extreme c =
    λ P needs C p x s.
    let q = c.requires in
    not_extreme p.few q.1 q.3 s (says_false c.extreme.result c.if-not-extreme.true (c.extreme.ensures _ P needs p))

pub returns : goal.returns
returns c =
    λ P needs C p x s.
    let q = c.requires in
    let e = says_true c.extreme.result c.if-not-extreme.false (c.extreme.ensures _ P needs p) in
    let b = says_true c.below.result c.if-not-below.false c.below.ensures in
    let f = says_true c.fresh.result c.if-not-fresh.false c.fresh.ensures in
    put_in p.few q.1 q.3 s _ _ _ b c.place-at.ensures f e c.insert-2.ensures
