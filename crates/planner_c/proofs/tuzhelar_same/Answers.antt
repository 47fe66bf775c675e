-- `planner_c::tuzhelar_same` meets its contract. Assumes nothing.
use Rattle.planner_c.proofs.CompareLaws.{counted}
use Rattle.planner_c.proofs.tuzhelar_same.Goals as goal

pub answer_compared-requires : goal.answer_compared-requires
answer_compared-requires c = counted c.args.first.now c.args.second.now c.args.left.now c.args.right.now c.same_timings-r.ensures.answer
