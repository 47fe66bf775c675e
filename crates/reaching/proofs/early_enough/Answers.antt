-- `reaching::early_enough` meets its contract. Assumes nothing.
use mathlib.Core.Path.{subst}
use Rattle.sheet.specs.Cue.{used}
use Rattle.moments.specs.Moments.{MomentsOf}
use Rattle.reaching.proofs.EarlyLaws.{lowered_asks, early_words, early_as_it_is}
use Rattle.reaching.proofs.early_enough.Goals as goal

pub lowered-requires : goal.lowered-requires
lowered-requires c =
    let (t, u, m, G, near) = c.requires in
    lowered_asks t G (subst (MomentsOf t) c.in-Some.is m) (rw u.triggers_are at c.words_of-x.ensures)

pub returns-in-Some : goal.returns-in-Some
returns-in-Some c =
    λ t u m G near.
    c.times_in_use.ensures (used t) t.triggers _ u
    (early_words t (subst (MomentsOf t) c.in-Some.is m) (rw u.triggers_are at c.words_of-x.ensures) c.lowered.ensures)

pub returns-in-None : goal.returns-in-None
returns-in-None c =
    λ t u m G near.
    c.times_in_use-in-None.ensures (used t) t.triggers _ u
    (early_as_it_is t (subst (MomentsOf t) c.in-None.is m) (rw u.triggers_are at c.words_of-x.ensures))
