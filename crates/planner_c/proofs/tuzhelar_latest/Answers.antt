-- `planner_c::tuzhelar_latest` meets its contract. Assumes nothing.
use mathlib.Core.Path.{sym, subst, ◌∙◌}
use Rattle.reaching.specs.Reaching.{reach_extent}
use Rattle.answer_words.specs.Inner.{Few}
use Rattle.planner_c.proofs.Few.{reach_few}
use Rattle.planner_c.proofs.ReachLaws.{number_told, space_told, words_told}
use Rattle.planner_c.proofs.tuzhelar_latest.Goals as goal

-- what was found is as large as the answer
pub write_found-requires : goal.write_found-requires
write_found-requires c =
    subst (λ r. Few (reach_extent r)) (sym c.latest_timing-r.ensures.answer ∙ c.in-Ok.is) (reach_few _ _ _ _)

pub write_reached-requires : goal.write_reached-requires
write_reached-requires c = subst (λ r. Few (reach_extent r)) (sym c.latest_timing-r.ensures.answer) (reach_few _ _ _ _)

pub returns-in-Ok-clause-returned : goal.returns-in-Ok-clause-returned
returns-in-Ok-clause-returned c =
    (let w = c.lent_timing-wish.ensures in
    number_told _ c.args.space.now c.args.times.now w.number w.times c.latest_timing-r.ensures.answer
    (rw c.in-Ok.is c.write_found.ensures.number))

pub returns-in-Ok-clause-listed : goal.returns-in-Ok-clause-listed
returns-in-Ok-clause-listed c =
    (let w = c.lent_timing-wish.ensures in
    space_told _ c.args.space.now c.args.times.now w.number w.times c.latest_timing-r.ensures.written)

pub returns-in-Ok-clause-answered : goal.returns-in-Ok-clause-answered
returns-in-Ok-clause-answered c =
    (let w = c.lent_timing-wish.ensures in
    words_told _ c.args.space.now c.args.times.now w.number w.times c.latest_timing-r.ensures.answer c.args.answer.now
    (rw c.in-Ok.is c.write_found.ensures.words))

pub returns-in-Err-clause-returned : goal.returns-in-Err-clause-returned
returns-in-Err-clause-returned c =
    (let w = c.lent_timing-wish.ensures in
    number_told _ c.args.space.now c.args.times.now w.number w.times c.latest_timing-r.ensures.answer c.write_reached.ensures.number)

pub returns-in-Err-clause-listed : goal.returns-in-Err-clause-listed
returns-in-Err-clause-listed c =
    (let w = c.lent_timing-wish.ensures in
    space_told _ c.args.space.now c.args.times.now w.number w.times c.latest_timing-r.ensures.written)

pub returns-in-Err-clause-answered : goal.returns-in-Err-clause-answered
returns-in-Err-clause-answered c =
    (let w = c.lent_timing-wish.ensures in
    words_told _ c.args.space.now c.args.times.now w.number w.times c.latest_timing-r.ensures.answer c.args.answer.now c.write_reached.ensures.words)
