-- `extremes::extreme` meets its contract. Assumes nothing.
use mathlib.Core.Bool.{not}
use lib.Dec.{eqb}
use Rattle.tables.proofs.LargestLaws.{close_largest}
use Rattle.extremes.proofs.ExtremeLaws.{extreme_says, extreme_own}
use Rattle.extremes.proofs.extreme.Goals as goal

pub tight_sets-tight-requires : goal.tight_sets-tight-requires
tight_sets-tight-requires c =
    let m = c.requires.0 in
    (m.few, m.few_panels, m.lagged, m.asked, c.requires.2, close_largest _ c.lateness-late.ensures.close c.largest-most.ensures)

pub returns : goal.returns
returns c =
    let w = c.args.line in
    λ n P needs p. extreme_own w (not (eqb c.common.result 0)) c.requires.1
    (λ p. extreme_says _ P _ _ _ needs p w.at _ c.held_sets-held.ensures _ _ c.lateness-late.ensures.is
    c.largest-most.ensures _ c.tight_sets-tight.ensures _ c.joined-front.ensures _ c.common.ensures) p
