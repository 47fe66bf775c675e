-- `planner_c::tuzhelar_hire` meets its contract. Assumes nothing.
use mathlib.Core.Path.{ap, ◌∙◌}
use Rattle.refusals.specs.Numbers.{number}
use Rattle.answer_words.specs.Words.{number_by}
use Rattle.planner_c.proofs.Few.{if_length}
use Rattle.planner_c.proofs.Numbered.{hire_numbered}
use Rattle.planner_c.proofs.tuzhelar_hire.Goals as goal

pub write_hired-requires : goal.write_hired-requires
write_hired-requires c = if_length _ _ _ _ c.hire-r.ensures.returned

pub returns-clause-returned : goal.returns-clause-returned
returns-clause-returned c = c.write_hired.ensures.number ∙ ap (number_by number) c.hire-r.ensures.returned ∙ hire_numbered _ _ _ _
