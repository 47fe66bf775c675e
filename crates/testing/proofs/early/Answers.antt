-- `testing::early` meets its contract. Assumes nothing.
use mathlib.Core.Path.{subst}
use Rattle.moments.specs.Moments.{MomentsOf}
use Rattle.testing.proofs.SheetLaws.{in_time_asks, early_says, always_early}
use Rattle.testing.proofs.early.Goals as goal

pub in_time-requires : goal.in_time-requires
in_time-requires c = let (t, X, m, G, w) = c.requires in in_time_asks G X w (subst (MomentsOf t) c.in-Some.is m)

pub returns-in-Some : goal.returns-in-Some
returns-in-Some c = λ t X m G w. early_says G X w (subst (MomentsOf t) c.in-Some.is m) c.in_time.result c.in_time.ensures

pub returns-in-None : goal.returns-in-None
returns-in-None c = λ t X m G w. always_early G X w (subst (MomentsOf t) c.in-None.is m)
