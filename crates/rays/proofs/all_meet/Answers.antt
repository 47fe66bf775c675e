-- `rays::all_meet` meets its contract.
use Rattle.std.proofs.Common.{take, arith, rules}
use Rattle.std.proofs.lemmas.Iterator.{cases_from_all, YieldsList-from_slice}
use Rattle.rays.specs.Rays.{Meets}
use Rattle.rays.proofs.RayLaws.{all_says}
use Rattle.rays.proofs.all_meet.Goals as goal

pub returns : goal.returns
returns c =
    let a = c.args in
    all_says (λ w. Meets a.panel.count w a.panel.mask a.panel.wants.now) a.set.now.rows a.set.now.len _ (omega arith)
    (cases_from_all _ _ c.all.result (λ w. Meets a.panel.count w a.panel.mask a.panel.wants.now)
    (λ w. ¬ (Meets a.panel.count w a.panel.mask a.panel.wants.now)) c.all.ensures.ran
    (YieldsList-from_slice (take a.set.now.len a.set.now.rows) (search rules)) (λ x q k. search rules) (λ x q k. search rules))
