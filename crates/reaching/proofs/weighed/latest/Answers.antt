-- `reaching::weighed::latest` meets its contract: what all the lines make is the latest timing. Assumes nothing.
use native.Mathlib.Omega.{arith}
use Rattle.tables.proofs.SquareLaws.{closely_within_v}
use Rattle.reaching.proofs.WeighedLaws.{latest_held, latest_told}
use Rattle.reaching.proofs.weighed.latest.Goals as goal

pub numbers_of-requires : goal.numbers_of-requires
numbers_of-requires c =
    let (P, G, w) = c.requires in
    let sized = c.combined.ensures.sized in
    let made = c.combined.ensures.made in
    let held = latest_held w made in
    rw sized (w.few, (_, held), closely_within_v (omega arith) (omega arith) held w.sizes)

pub returns : goal.returns
returns c =
    λ P G w.
    let sized = c.combined.ensures.sized in
    let made = c.combined.ensures.made in
    latest_told sized (latest_held w made) c.numbers_of.ensures
