-- `planner_c::tuzhelar_plan` meets its contract. Assumes nothing.
use mathlib.Core.Path.{ap, sym, subst, ◌∙◌}
use Rattle.planning.specs.Planning.{unplanned_number, extent_of}
use Rattle.answer_words.specs.Inner.{Few}
use Rattle.answer_words.specs.Words.{number_by}
use Rattle.planner_c.proofs.Few.{plan_few}
use Rattle.planner_c.proofs.Numbered.{plan_numbered}
use Rattle.planner_c.proofs.tuzhelar_plan.Goals as goal

pub write_plan-requires : goal.write_plan-requires
write_plan-requires c = subst (λ r. Few (extent_of r)) (sym c.plan-r.ensures.answer) (plan_few _ _)

pub returns-clause-returned : goal.returns-clause-returned
returns-clause-returned c = c.write_plan.ensures.number ∙ ap (number_by unplanned_number) c.plan-r.ensures.answer ∙ plan_numbered _ _
