-- `preparing::moments_of` meets its contract. Assumes nothing.
use Rattle.preparing.proofs.Preparing.{triggers_few, panels_few}
use Rattle.preparing.proofs.MomentLaws.{no_moments, overruns_asks, moments_held}
use Rattle.preparing.proofs.moments_of.Goals as goal

pub overruns-requires : goal.overruns-requires
overruns-requires c =
    let (s, W) = c.requires in
    let (near, close) = overruns_asks W c.in-Some.is in (panels_few W, triggers_few W, near, close)

pub returns-in-Some : goal.returns-in-Some
returns-in-Some c = λ s W. moments_held W c.in-Some.is c.overruns.ensures

pub returns-in-None : goal.returns-in-None
returns-in-None c = λ s W. no_moments W c.in-None.is
